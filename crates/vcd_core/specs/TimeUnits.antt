-- The spelling of the units of timescales (IEEE 1364-2005, 18.2).
use Rattle.std.specs.Prelude.{ℕ, List, codes}
use Rattle.vcd_core.specs.declared.capture.TimeUnit.{TimeUnit}
use Rattle.vcd_core.specs.declared.capture.TimeUnit.TheVariants.{Second, Millisecond, Microsecond}
use Rattle.vcd_core.specs.declared.capture.TimeUnit.TheVariants.{Nanosecond, Picosecond}
use Rattle.vcd_core.specs.declared.capture.TimeUnit.TheVariants.{Femtosecond}

-- the spelling of a unit of time
abbrev pub unit_text : TimeUnit → List ℕ
unit_text Second = codes "s"
unit_text Millisecond = codes "ms"
unit_text Microsecond = codes "us"
unit_text Nanosecond = codes "ns"
unit_text Picosecond = codes "ps"
unit_text Femtosecond = codes "fs"
