-- Times of a window, as words write them: ticks, or a number with a unit. The rules are the
-- project's own.
use Rattle.std.specs.Prelude.{ℕ, not, ◌+◌, ◌-◌, ◌*◌, ◌/◌, ◌%◌, ◌^◌, ◌==◌, ◌&&◌, nat_lt}
use Rattle.std.specs.Prelude.{if◌then◌else◌, List, [], ◌∷◌, take, drop, Option, Some, None}
use Rattle.std.specs.Prelude.{option_and_then, option_map}
use Rattle.std.specs.List.{prefix_len}
use Rattle.std.specs.Char.{is_ascii_digit}
use Rattle.vcd_core.specs.Decimal.{is_number, number_of}
use Rattle.vcd_core.specs.UnitNames.{unit_named}
use Rattle.vcd_core.specs.declared.capture.TimeUnit.{TimeUnit}
use Rattle.vcd_core.specs.declared.capture.TimeUnit.TheVariants.{Second, Millisecond, Microsecond}
use Rattle.vcd_core.specs.declared.capture.TimeUnit.TheVariants.{Nanosecond}
use Rattle.vcd_core.specs.declared.capture.TimeUnit.TheVariants.{Picosecond, Femtosecond}
use Rattle.vcd_core.specs.declared.capture.Timescale.{Timescale}
use Rattle.vcd_part.specs.declared.time.Time.{Time}
use Rattle.vcd_part.specs.declared.time.Time.TheVariants.{Ticks, Units}

-- ---- words

-- the number of digits, if it is below 2^64 - 1
abbrev pub bounded_number : List ℕ → Option ℕ
bounded_number digits =
    if is_number digits && nat_lt (number_of digits) (2 ^ 64 - 1) then Some (number_of digits)
    else None

-- so many whole units, and a part of one: the fraction's digits as a number, of 10^decimals
abbrev pub in_units : (whole fraction : Option ℕ) → (decimals : ℕ) → Option TimeUnit → Option Time
in_units (Some whole) (Some fraction) decimals (Some unit) =
    Some (Units whole fraction (10 ^ decimals) unit)
in_units whole fraction decimals unit = None

-- the time of digits, and of what follows a `.` after them: one to 15 digits and a unit
abbrev pub time_with_fraction : (digits rest : List ℕ) → Option Time
time_with_fraction digits rest =
    let decimals : ℕ = prefix_len is_ascii_digit rest in
    if nat_lt 15 decimals then None
    else in_units (bounded_number digits) (bounded_number (take decimals rest)) decimals
    (unit_named (drop decimals rest))

-- the time of digits, and of what follows them: nothing, a unit, or `.` (46) and a fraction
abbrev pub time_with : (digits rest : List ℕ) → Option Time
time_with digits [] = option_map Ticks (bounded_number digits)
time_with digits (c ∷ rest) = if c == 46 then time_with_fraction digits rest
    else in_units (bounded_number digits) (Some 0) 0 (unit_named (c ∷ rest))

-- the time that a word writes, if it writes one
abbrev pub time_of : List ℕ → Option Time
time_of word =
    let digits : ℕ = prefix_len is_ascii_digit word in
    time_with (take digits word) (drop digits word)

-- the time of a word, or so many ticks without one
abbrev pub time_asked : Option (List ℕ) → (otherwise : ℕ) → Option Time
time_asked None otherwise = Some (Ticks otherwise)
time_asked (Some word) otherwise = time_of word

-- ---- ticks

-- the femtoseconds of a unit
abbrev pub femtoseconds : TimeUnit → ℕ
femtoseconds Second = 10 ^ 15
femtoseconds Millisecond = 10 ^ 12
femtoseconds Microsecond = 10 ^ 9
femtoseconds Nanosecond = 10 ^ 6
femtoseconds Picosecond = 10 ^ 3
femtoseconds Femtosecond = 1

-- x divided by y, if nothing is left over
abbrev pub quotient : ℕ → ℕ → Option ℕ
quotient x y = if not (y == 0) && x % y == 0 then Some (x / y) else None

-- the ticks of a time, if it is a whole number of them
abbrev pub ticks_of : Option Timescale → Time → Option ℕ
ticks_of timescale (Ticks ticks) = Some ticks
ticks_of None (Units whole fraction parts unit) = None
ticks_of (Some t) (Units whole fraction parts unit) =
    option_and_then (λ part. quotient (whole * femtoseconds unit + part)
    (t.count * femtoseconds t.unit)) (quotient (fraction * femtoseconds unit) parts)
