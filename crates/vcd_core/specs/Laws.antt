-- The laws of waves and splices: each is the contract of a function of `laws`.
use Rattle.std.specs.Prelude.{ℕ, ◌+◌, ◌^◌, ◌≡◌, ◌<◌, ◌≤◌, ℤ, pos, ◌+ℤ◌, List, length, drop}
use Rattle.std.specs.Prelude.{slice_range, All}
use Rattle.vcd_core.specs.declared.bit.Bit.{Bit}
use Rattle.vcd_core.specs.declared.wave.Change.{Change}
use Rattle.vcd_core.specs.Wave.{value_at, changes_of, IsWave, AllUpTo}
use Rattle.vcd_core.specs.Splice.{AllTicksFit, spliced_changes}

-- two waves of one width with the same value at each tick have the same changes
abbrev pub SameValuesSameChanges : Type 0
SameValuesSameChanges =
    (width end : ℕ) (xs ys : List Change) → IsWave width xs → IsWave width ys → AllUpTo end xs
    → AllUpTo end ys
    → ((t : ℕ) → t ≤ end → value_at width xs t ≡ value_at width ys t) → xs ≡ ys

-- a wave is the list of changes of its own values
abbrev pub ChangesOfOwnValues : Type 0
ChangesOfOwnValues =
    (width end : ℕ) (xs : List Change) → IsWave width xs → AllUpTo end xs
    → changes_of width end (value_at width xs) ≡ xs

-- the changes of f have its value at each tick
abbrev pub ValuesOfChanges : Type 0
ValuesOfChanges =
    (width end t : ℕ) (f : ℕ → List Bit) → t ≤ end → value_at width (changes_of width end f) t ≡ f t

-- the changes of f are a wave up to the end, if its values have the width
abbrev pub ChangesAreWave : Type 0
ChangesAreWave =
    (width end : ℕ) (f : ℕ → List Bit) → ((t : ℕ) → length (f t) ≡ width)
    → IsWave width (changes_of width end f) × AllUpTo end (changes_of width end f)

-- the splice that undoes a splice restores both lists
abbrev pub SpliceAndBack : Type 0
SpliceAndBack =
    (changes piece : List Change) (from to : ℕ) (by back : ℤ) → from ≤ to → to ≤ length changes
    → AllTicksFit by (drop to changes) → by +ℤ back ≡ pos 0
    → (spliced_changes (spliced_changes changes from to piece by) from (from + length piece)
    (slice_range changes from to) back ≡ changes)
    × (slice_range (spliced_changes changes from to piece by) from (from + length piece) ≡ piece)

-- the splice that undoes an allowed splice is allowed: the piece is in range, the ticks fit, and
-- the result is a wave
abbrev pub SpliceBackIsAllowed : Type 0
SpliceBackIsAllowed =
    (width : ℕ) (changes piece : List Change) (from to : ℕ) (by back : ℤ) → from ≤ to
    → to ≤ length changes
    → IsWave width changes → All (λ c. c.tick < 2 ^ 64) changes → AllTicksFit by (drop to changes)
    → by +ℤ back ≡ pos 0
    → (from + length piece ≤ length (spliced_changes changes from to piece by))
    × AllTicksFit back (drop (from + length piece) (spliced_changes changes from to piece by))
    × IsWave width (spliced_changes (spliced_changes changes from to piece by) from
    (from + length piece)
    (slice_range changes from to) back)
