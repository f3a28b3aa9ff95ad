-- The laws of differences, in words about ticks.
use Rattle.std.specs.Prelude.{◌≡◌, ◌⊎◌, ℕ, ◌+◌, ◌-◌, ◌≤◌, ◌<◌, ◌↔◌, Bool, IsTrue, IsFalse}
use Rattle.std.specs.Prelude.{List, [], ◌∷◌}
use Rattle.std.specs.List.{Contains}
use Rattle.vcd_text.specs.declared.reading.choice.TickRange.{TickRange}
use Rattle.vcd_compare.specs.Differences.{WaveByTicks, IsDifference, differences, standing}
use Rattle.vcd_compare.specs.Differences.{compared}

-- what is found are exactly the differences
abbrev pub FindsEachDifference : Type 0
FindsEachDifference = (differ : ℕ → Bool) (window ticks : TickRange)
    → Contains (differences differ window) ticks ↔ IsDifference differ window ticks

-- ranges of ticks rise from a tick on, with a tick or more between two of them
abbrev pub RiseFrom : ℕ → List TickRange → Type 0
RiseFrom floor [] = Unit {0}
RiseFrom floor (r ∷ rs) = (floor ≤ r.first) × (r.first ≤ r.last) × RiseFrom (r.last + 2) rs

-- the differences rise, so each is there once
abbrev pub DifferencesRise : Type 0
DifferencesRise = (differ : ℕ → Bool) (window : TickRange)
    → RiseFrom window.first (differences differ window)

-- a tick in a window
abbrev pub IsInWindow : TickRange → ℕ → Type 0
IsInWindow window t = (window.first ≤ t) × (t ≤ window.last)

-- two waves are the same at each tick of a window
abbrev pub AreSameIn : {V : Type 0} → (same : V → V → Bool) → TickRange → (a b : WaveByTicks V)
    → Type 0
AreSameIn same window a b = (t : ℕ) → IsInWindow window t → IsTrue (same (a t) (b t))

-- without tolerance, none stands exactly if the waves are the same at each tick of the window
abbrev pub NoneStandsIfSame : {V : Type 0} → (same : V → V → Bool) → Type 0
NoneStandsIfSame {V} same = (a b : WaveByTicks V) (window : TickRange)
    → (standing same 0 a b window ≡ []) ↔ AreSameIn same window a b

-- a tick within an edge that is late in one of two waves: from `first` to `last`, at most
-- `tolerance` ticks within the window, the waves differ; they are the same just before, and the
-- same just after, and there they have another value than before
pub record IsInLateEdge {V : Type 0} (same : V → V → Bool) (tolerance : ℕ) (a b : WaveByTicks V)
    (window : TickRange) (t : ℕ) : Type 0 where
  pub first : ℕ
  pub last : ℕ
  pub after_first : first ≤ t
  pub before_last : t ≤ last
  pub few : last + 1 ≤ first + tolerance
  pub begins_within : window.first < first
  pub ends_within : last < window.last
  pub apart : (s : ℕ) → first ≤ s → s ≤ last → IsFalse (same (a s) (b s))
  pub same_before : IsTrue (same (a (first - 1)) (b (first - 1)))
  pub same_after : IsTrue (same (a (last + 1)) (b (last + 1)))
  pub edge : IsFalse (same (a (first - 1)) (a (last + 1)))

-- with tolerance, none stands exactly if at each tick of the window the waves are the same, or the
-- tick is within a late edge
abbrev pub NoneStandsIfEdgesAreLate : {V : Type 0} → (same : V → V → Bool) → Type 0
NoneStandsIfEdgesAreLate {V} same = (tolerance : ℕ) (a b : WaveByTicks V) (window : TickRange)
    → (standing same tolerance a b window ≡ [])
    ↔ ((t : ℕ) → IsInWindow window t
    → IsTrue (same (a t) (b t)) ⊎ IsInLateEdge same tolerance a b window t)

-- two waves have the same values in a window
abbrev pub AgreeIn : {V : Type 0} → TickRange → (a c : WaveByTicks V) → Type 0
AgreeIn window a c = (t : ℕ) → IsInWindow window t → a t ≡ c t

-- what is told depends on the ticks of the window alone
abbrev pub OnlyTheWindowCounts : {V : Type 0} → (same : V → V → Bool) → Type 0
OnlyTheWindowCounts {V} same = (tolerance : ℕ) (a b c d : WaveByTicks V) (window : TickRange)
    → AgreeIn window a c → AgreeIn window b d
    → compared same tolerance a b window ≡ compared same tolerance c d window
