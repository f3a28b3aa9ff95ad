-- A splice of a list of changes: the project's own.
use Rattle.std.specs.Prelude.{ℕ, ℤ, pos, ◌+ℤ◌, unsigned_abs, List, ◌++◌, take, drop, map, All}
use Rattle.std.specs.Int.{w64, FitsUnsigned}
use Rattle.vcd_core.specs.declared.wave.Change.{Change}
use Rattle.vcd_core.specs.Wave.{change}

-- a change `by` ticks later, or earlier if `by` is negative
unfoldable pub moved_change : ℤ → Change → Change
moved_change by c = change (unsigned_abs (pos c.tick +ℤ by)) c.value

-- the new tick of a change is from 0 to 2^64 - 1
unfoldable pub TickFits : ℤ → Change → Type 0
TickFits by c = FitsUnsigned w64 (pos c.tick +ℤ by)

-- the new tick of each change is from 0 to 2^64 - 1
abbrev pub AllTicksFit : ℤ → List Change → Type 0
AllTicksFit by changes = All (TickFits by) changes

-- the list with a piece in place of the changes from `from` to before `to`, and the later ones
-- moved by `by` ticks
unfoldable pub spliced_changes : List Change → ℕ → ℕ → List Change → ℤ → List Change
spliced_changes changes from to piece by =
    take from changes ++ piece ++ map (moved_change by) (drop to changes)
