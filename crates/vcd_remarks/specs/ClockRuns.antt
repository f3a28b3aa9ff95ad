-- The runs of a clock that are much shorter than most, as spikes and ringing edges are, and those
-- of a data line that are much shorter than the clock's. The project's own.
use Rattle.std.specs.Prelude.{ℕ, zero, suc, ◌+◌, ◌*◌, ◌/◌, ◌^◌, ◌&&◌, ◌||◌, nat_lt, nat_le, Bool}
use Rattle.std.specs.Prelude.{if◌then◌else◌, Option, Some, None, List, map, length}
use Rattle.std.specs.List.{filter, count_by}
use Rattle.vcd_core.specs.declared.bit.Bit.{Bit}
use Rattle.vcd_core.specs.Value.{letter_at, same_letter}
use Rattle.vcd_core.specs.Contents.{SignalContents}
use Rattle.vcd_decode.specs.Lines.{is_zero, is_one}
use Rattle.vcd_remarks.specs.ValueRuns.{ValueRun, value_runs, ticks_of_run}

-- whether a letter is this one, or without one either 0 or 1
abbrev pub is_of_level : (level : Option Bit) → Bit → Bool
is_of_level (Some level) letter = same_letter letter level
is_of_level None letter = is_zero letter || is_one letter

-- whether a run has such a letter, and contains neither tick 0 nor the end
abbrev pub is_level_run : (level : Option Bit) → (end : ℕ) → ValueRun → Bool
is_level_run level end r =
    nat_lt 0 r.first && nat_lt r.last end && is_of_level level (letter_at r.value 0)

-- such runs of a signal
abbrev pub level_runs : (level : Option Bit) → (end : ℕ) → SignalContents → List ValueRun
level_runs level end s = filter (is_level_run level end) (value_runs end s)

-- whether more than one in four of these runs have 2 ^ power ticks
abbrev pub is_often_reached : List ValueRun → (power : ℕ) → Bool
is_often_reached rs power =
    nat_lt (length rs / 4) (count_by (λ r. nat_le (2 ^ power) (ticks_of_run r)) rs)

-- how many of the numbers below another pass a test
unfoldable pub count_below : (ℕ → Bool) → ℕ → ℕ
count_below passes zero = 0
count_below passes (suc n) = count_below passes n + (if passes n then 1 else 0)

-- the first ticks of runs that are short: three in four of the usual ones are shorter than a power
-- of two, up to 2 ^ 64, and these have less than a quarter of the least such power
unfoldable pub short_among : (usual rs : List ValueRun) → List ℕ
short_among usual rs = map (λ r. r.first)
    (filter (λ r. nat_lt (4 * ticks_of_run r) (2 ^ count_below (is_often_reached usual) 64)) rs)

-- those of a level of a clock, beside all of that level
abbrev pub short_runs : (level : Bit) → (end : ℕ) → SignalContents → List ℕ
short_runs level end s = let rs = level_runs (Some level) end s in short_among rs rs

-- those of a data line, beside those of its clock
abbrev pub short_beside : (end : ℕ) → (clk line : SignalContents) → List ℕ
short_beside end clk line = short_among (level_runs None end clk) (level_runs None end line)
