-- The names of the faults of a setup: the project's own.
use Rattle.std.specs.Prelude.{ℕ, List, codes}
use Rattle.vcd_decode.specs.declared.setup_error.SetupError.{SetupError}
use Rattle.vcd_decode.specs.declared.setup_error.SetupError.TheVariants.{BadRatio, BitTooShort}
use Rattle.vcd_decode.specs.declared.setup_error.SetupError.TheVariants.{BadData, BadStop, BadMode}
use Rattle.vcd_decode.specs.declared.setup_error.SetupError.TheVariants.{BadBits}

-- the printed name of a fault
abbrev pub setup_error_name : SetupError → List ℕ
setup_error_name BadRatio = codes "BadRatio"
setup_error_name BitTooShort = codes "BitTooShort"
setup_error_name BadData = codes "BadData"
setup_error_name BadStop = codes "BadStop"
setup_error_name BadMode = codes "BadMode"
setup_error_name BadBits = codes "BadBits"
