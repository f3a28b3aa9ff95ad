-- The runs of a level, as the code notes them while the changes of a line come.
use Rattle.std.specs.Prelude.{ℕ, ◌+◌, ◌-◌, ◌/◌, ◌^◌, ◌&&◌, nat_lt, Bool, false, if◌then◌else◌}
use Rattle.std.specs.Prelude.{Option, Some, None, List, [], ◌∷◌, map, filter_map}
use Rattle.std.specs.List.{filter}
use Rattle.std.specs.Option.{option_map}
use Rattle.vcd_core.specs.declared.bit.Bit.{Bit}
use Rattle.vcd_core.specs.declared.bit.Bit.TheVariants.{X}
use Rattle.vcd_core.specs.declared.bit_edges.BitEdge.{BitEdge}
use Rattle.vcd_core.specs.declared.wave.Change.{Change}
use Rattle.vcd_core.specs.Value.{letter_at, same_letter}
use Rattle.vcd_core.specs.Wave.{change}
use Rattle.vcd_remarks.specs.declared.clock_runs.LevelRuns.{LevelRuns}
use Rattle.vcd_remarks.specs.declared.findings.found_ticks.FoundTicks.{FoundTicks}
use Rattle.vcd_remarks.specs.declared.line_bits.LineBits.{LineBits}
use Rattle.vcd_remarks.specs.ClockRuns.{is_of_level, count_below}
use Rattle.vcd_remarks.specs.FoundTicks.{found_ticks}
use Rattle.vcd_remarks.specs.ValueRuns.{ValueRun, ticks_of_run}
use Rattle.vcd_remarks.specs.inside.FoundTicks.{with_ticks}
use Rattle.vcd_remarks.specs.inside.LineBits.{line_bits}
use Rattle.vcd_remarks.specs.inside.RunsBelow.{is_below, at_power, none_below}

-- ---- the changes of a line

-- the letter to which a line goes, if that is another one
abbrev pub letter_after : (before at : Option Bit) → Option Bit
letter_after None at = None
letter_after (Some b) None = None
letter_after (Some b) (Some a) = if same_letter a b then None else Some a

abbrev pub new_letter : LineBits → Option Bit
new_letter l = letter_after l.before l.at

-- the change of a line at a tick, if there is one
abbrev pub line_change : ℕ → LineBits → Option Change
line_change t l = option_map (λ b. change t (b ∷ [])) (new_letter l)

-- the changes of the line at a place
abbrev pub changes_of_place : (line : ℕ) → List BitEdge → List Change
changes_of_place line es = filter_map (λ e. line_change e.tick (line_bits line e)) es

-- the runs that end at changes, the first of which began at another
unfoldable pub ended_runs : Change → List Change → List ValueRun
ended_runs c [] = []
ended_runs c (d ∷ ds) =
    record { first = c.tick; last = d.tick - 1; value = c.value } ∷ ended_runs d ds

-- whether a run has a letter of a level, and does not contain tick 0
abbrev pub is_noted : (level : Option Bit) → ValueRun → Bool
is_noted level r = nat_lt 0 r.first && is_of_level level (letter_at r.value 0)

-- ---- under each power of two

-- whether there is a run of so many
abbrev pub is_below_if : Option ℕ → (power : ℕ) → Bool
is_below_if None power = false
is_below_if (Some ticks) power = is_below ticks power

-- the first ticks of the runs of fewer than 2 ^ power ticks
unfoldable pub below : (power : ℕ) → List ValueRun → List ℕ
below power rs = map (λ r. r.first) (filter (λ r. nat_lt (ticks_of_run r) (2 ^ power)) rs)

-- before the first change
abbrev pub no_runs : (level : Option Bit) → LevelRuns
no_runs level = record { level = level; since = 0; letter = X; below = none_below }

-- how many ticks the last run has if it ends before a tick, and is noted
abbrev pub ended_ticks : LevelRuns → ℕ → Option ℕ
ended_ticks l t = if nat_lt 0 l.since && is_of_level l.level l.letter
    then Some (t - 1 - l.since + 1) else None

-- the runs of the level that end at changes to come
abbrev pub level_runs_left : LevelRuns → List Change → List ValueRun
level_runs_left l cs = filter (is_noted l.level) (ended_runs (change l.since (l.letter ∷ [])) cs)

-- the runs below a power, with those that end at changes to come
abbrev pub below_left : LevelRuns → List Change → (power : ℕ) → FoundTicks
below_left l cs power = with_ticks (at_power l.below power) (below power (level_runs_left l cs))

-- ---- those that are short

-- whether more than one in four of runs have 2 ^ power ticks, by those below each power
abbrev pub is_often_reached : (found : ℕ → FoundTicks) → (power : ℕ) → Bool
is_often_reached found power =
    nat_lt ((found 64).count / 4) ((found 64).count - (found power).count)

-- the short ones of runs, given the usual ones
abbrev pub short_noted : (usual found : ℕ → FoundTicks) → FoundTicks
short_noted usual found =
    let count = count_below (is_often_reached usual) 64 in
    if nat_lt count 2 then found_ticks [] else found (count - 2)

-- the short ones once the changes to come of both lines have been taken
abbrev pub short_left : (usual runs : LevelRuns) → (usual_changes changes : List Change)
    → FoundTicks
short_left usual runs usual_changes changes =
    short_noted (below_left usual usual_changes) (below_left runs changes)
