-- Changes without those that leave the value as it is.
use Rattle.std.specs.Prelude.{ℕ, Bool, ◌==◌, ◌||◌, ◌&&◌, not, ◌-◌, ◌+◌, ◌≤◌, ◌≡◌, length, true}
use Rattle.std.specs.Prelude.{if◌then◌else◌, nat_le, List, [], ◌∷◌}
use Rattle.vcd_core.specs.declared.bit.Bit.{Bit}
use Rattle.vcd_core.specs.declared.wave.Change.{Change}
use Rattle.vcd_core.specs.Value.{same_letters}
use Rattle.vcd_core.specs.Wave.{change, unless_same}

-- ticks rise strictly from a floor on, and values have one width
abbrev pub TicksRise : ℕ → ℕ → List Change → Type 0
TicksRise width floor [] = Unit {0}
TicksRise width floor (c ∷ cs) = (floor ≤ c.tick) × (length c.value ≡ width)
    × TicksRise width (c.tick + 1) cs

-- each change whose value differs from the one before it
unfoldable pub without_repeats : List Bit → List Change → List Change
without_repeats before [] = []
without_repeats before (c ∷ cs) =
    unless_same (same_letters c.value before) c (without_repeats c.value cs)

-- a change to another value
abbrev pub mapped_change : (List Bit → List Bit) → Change → Change
mapped_change h c = change c.tick (h c.value)

-- whether the run of one value that begins with a change contains tick 0 or the end, or has enough
-- ticks
abbrev pub begins_steady : ℕ → Change → List Change → Bool
begins_steady ticks c [] = true
begins_steady ticks c (next ∷ cs) = c.tick == 0 || nat_le ticks (next.tick - c.tick)

-- the changes that begin such runs
unfoldable pub steady_changes : ℕ → List Change → List Change
steady_changes ticks [] = []
steady_changes ticks (c ∷ cs) =
    if begins_steady ticks c cs then c ∷ steady_changes ticks cs else steady_changes ticks cs

-- whether a change begins such a run, and its value differs from the last one that remains
abbrev pub remains : ℕ → List Bit → Change → List Change → Bool
remains ticks before c later = begins_steady ticks c later && not (same_letters c.value before)

-- the changes after a value that remain when short runs are taken out
abbrev pub remaining_changes : ℕ → List Bit → List Change → List Change
remaining_changes ticks before cs = without_repeats before (steady_changes ticks cs)
