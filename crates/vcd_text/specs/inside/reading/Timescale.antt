-- The timescale of a text, found by its count and then by its unit.
use Rattle.std.specs.Prelude.{ℕ, ◌++◌, List, Option, find, bytes_eq, decimal}
use Rattle.std.specs.Option.{option_map}
use Rattle.vcd_core.specs.declared.capture.Timescale.{Timescale}
use Rattle.vcd_core.specs.declared.capture.TimeUnit.{TimeUnit}
use Rattle.vcd_core.specs.TimeUnits.{unit_text}
use Rattle.vcd_text.specs.Items.{timescales}

-- the timescale that a text spells, or none
abbrev pub timescale_spelled : List ℕ → Option Timescale
timescale_spelled text = find (λ t. bytes_eq text (decimal t.count ++ unit_text t.unit)) timescales

-- a count of a unit
abbrev pub timescale_of_unit : ℕ → Option TimeUnit → Option Timescale
timescale_of_unit count unit = option_map (λ u. record { count = count; unit = u }) unit
