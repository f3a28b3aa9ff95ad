-- The unit of a timescale that a text names (IEEE 1364-2005, 18.2).
use Rattle.std.specs.Prelude.{ℕ, List, [], ◌∷◌, Option, find, bytes_eq}
use Rattle.vcd_core.specs.declared.capture.TimeUnit.{TimeUnit}
use Rattle.vcd_core.specs.declared.capture.TimeUnit.TheVariants.{Second, Millisecond, Microsecond}
use Rattle.vcd_core.specs.declared.capture.TimeUnit.TheVariants.{Nanosecond, Picosecond}
use Rattle.vcd_core.specs.declared.capture.TimeUnit.TheVariants.{Femtosecond}
use Rattle.vcd_core.specs.TimeUnits.{unit_text}

-- the unit that a text names, or none
abbrev pub unit_named : List ℕ → Option TimeUnit
unit_named text = find (λ unit. bytes_eq text (unit_text unit))
    (Second ∷ Millisecond ∷ Microsecond ∷ Nanosecond ∷ Picosecond ∷ Femtosecond ∷ [])
