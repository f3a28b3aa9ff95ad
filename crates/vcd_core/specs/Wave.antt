-- A wave as the list of its changes: its value at a tick, and its one form.
use Rattle.std.specs.Prelude.{ℕ, zero, suc, Bool, ◌+◌, ◌≡◌, ◌≢◌, ◌≤◌, true, false, if◌then◌else◌}
use Rattle.std.specs.Prelude.{nat_le, List, [], ◌∷◌, length}
use Rattle.vcd_core.specs.declared.bit.Bit.{Bit}
use Rattle.vcd_core.specs.declared.wave.Change.{Change}
use Rattle.vcd_core.specs.Value.{all_x, same_letters}

-- a change: from this tick on, a signal has this value
abbrev pub change : ℕ → List Bit → Change
change tick value = record { tick = tick; value = value }

-- the value at a tick: that of the last change at or before it, or else `before`
unfoldable pub value_from : List Bit → List Change → ℕ → List Bit
value_from before [] t = before
value_from before (c ∷ cs) t = value_from (if nat_le c.tick t then c.value else before) cs t

-- the value of a wave at a tick: all x before its first change
abbrev pub value_at : ℕ → List Change → ℕ → List Bit
value_at width changes t = value_from (all_x width) changes t

-- a change put before others, unless its value is the same as the one before it
abbrev pub unless_same : Bool → Change → List Change → List Change
unless_same true c cs = cs
unless_same false c cs = c ∷ cs

-- the changes of f at n ticks from t on, where `before` is the value at the tick before
unfoldable pub changes_from : List Bit → ℕ → ℕ → (ℕ → List Bit) → List Change
changes_from before t zero f = []
changes_from before t (suc n) f = unless_same (same_letters (f t) before) (change t (f t))
    (changes_from (f t) (suc t) n f)

-- the changes of f at the ticks 0 to `end`: those at which it differs from the tick before, all x
-- before tick 0
abbrev pub changes_of : ℕ → ℕ → (ℕ → List Bit) → List Change
changes_of width end f = changes_from (all_x width) 0 (suc end) f

-- ticks rise strictly from `floor` on, and each value differs from the one before it, with the same
-- width
abbrev pub AreChangesFrom : ℕ → List Bit → List Change → Type 0
AreChangesFrom floor before [] = Unit {0}
AreChangesFrom floor before (c ∷ cs) = (floor ≤ c.tick) × (c.value ≢ before)
    × (length c.value ≡ length before)
    × AreChangesFrom (c.tick + 1) c.value cs

-- a list of changes in the one form of a wave of this width
pub record IsWave (width : ℕ) (changes : List Change) : Type 0 where
  pub rise : AreChangesFrom 0 (all_x width) changes

-- no change is past the tick `end`
abbrev pub AllUpTo : ℕ → List Change → Type 0
AllUpTo end [] = Unit {0}
AllUpTo end (c ∷ cs) = (c.tick ≤ end) × AllUpTo end cs
