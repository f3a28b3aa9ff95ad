-- A comparison of two waves up to a tick: what was found, and what is to come, are all that stands.
use Rattle.std.specs.Prelude.{◌≡◌, ℕ, suc, ◌-◌, ◌≤◌, ◌<◌, ◌&&◌, Bool, true, false, not, nat_le}
use Rattle.std.specs.Prelude.{nat_lt, if◌then◌else◌, Option, Some, None, List, [], ◌∷◌, ◌++◌, map}
use Rattle.std.specs.Prelude.{length, option_map}
use Rattle.std.specs.List.{filter}
use Rattle.vcd_text.specs.declared.reading.choice.TickRange.{TickRange}
use Rattle.vcd_compare.specs.Differences.{WaveByTicks, differ_at, differences_from, standing}
use Rattle.vcd_compare.specs.Differences.{is_forgiven, difference_at, ticks_between, summary}
use Rattle.vcd_compare.specs.declared.differences.Difference.{Difference}
use Rattle.vcd_compare.specs.declared.wave_comparison.OpenDifference.{OpenDifference}
use Rattle.vcd_compare.specs.declared.wave_comparison.WaveComparison.{WaveComparison}

-- a wave keeps its value from t on until a tick
abbrev pub KeepsUntil : {V : Type 0} → WaveByTicks V → (t tick : ℕ) → Type 0
KeepsUntil a t tick = (s : ℕ) → t ≤ s → s < tick → a s ≡ a t

-- ---- one step

-- whether a difference is an edge, by the value just before it, if it has one, and just after it
abbrev pub is_edge : {V : Type 0} → (same : V → V → Bool) → (before : Option V) → (after : V) → Bool
is_edge same None after = false
is_edge same (Some before) after = not (same before after)

-- whether a difference is forgiven that ends just before a tick, at which both waves have a value
abbrev pub is_forgiven_at : {V : Type 0} → (same : V → V → Bool) → (tolerance : ℕ)
    → OpenDifference V → ℕ → (after : V) → Bool
is_forgiven_at same tolerance o tick after =
    nat_le (tick - o.first) tolerance && is_edge same o.before after

-- a difference that has begun, with its last tick
abbrev pub ended_by : {V : Type 0} → OpenDifference V → ℕ → Difference V
ended_by o last = record {
  ticks = ticks_between o.first last;
  value_in_a = o.value_in_a;
  value_in_b = o.value_in_b;
}

-- the difference that ends just before a tick and stands, if one holds there
abbrev pub standing_end : {V : Type 0} → (same : V → V → Bool) → (tolerance : ℕ)
    → Option (OpenDifference V) → ℕ → (after : V) → List (Difference V)
standing_end same tolerance None tick after = []
standing_end same tolerance (Some o) tick after =
    if is_forgiven_at same tolerance o tick after then [] else ended_by o (tick - 1) ∷ []

-- a difference that begins at a tick
abbrev pub begun_with : {V : Type 0} → (before : Option V) → ℕ → (a b : V) → OpenDifference V
begun_with before tick a b = record {
  first = tick;
  before = before;
  value_in_a = a;
  value_in_b = b;
}

-- ---- up to a tick

-- the value of a wave just before a tick of a window
abbrev pub value_before : {V : Type 0} → WaveByTicks V → (first tick : ℕ) → Option V
value_before a first tick = if nat_lt first tick then Some (a (tick - 1)) else None

-- a difference that holds at a tick, with the values that a comparison keeps of it
pub record IsOpen {V : Type 0} (same : V → V → Bool) (a b : WaveByTicks V) (first t : ℕ)
    (o : OpenDifference V) : Type 0 where
  pub apart : differ_at same a b t ≡ true
  pub from : first ≤ o.first
  pub upto : o.first ≤ t
  pub before : o.before ≡ value_before a first o.first
  pub value_in_a : o.value_in_a ≡ a o.first
  pub value_in_b : o.value_in_b ≡ b o.first

-- what is kept of the difference that holds at a tick, or else of the value there
abbrev pub IsOpenIf : {V : Type 0} → (same : V → V → Bool) → (a b : WaveByTicks V)
    → (first t : ℕ) → Option V → Option (OpenDifference V) → Type 0
IsOpenIf same a b first t value None = (differ_at same a b t ≡ false) × (value ≡ Some (a t))
IsOpenIf same a b first t value (Some o) = IsOpen same a b first t o

-- where it began
abbrev pub begun : {V : Type 0} → Option (OpenDifference V) → Option ℕ
begun = option_map (λ o. o.first)

-- those of some differences that stand, as they are told
abbrev pub told_of : {V : Type 0} → (same : V → V → Bool) → (tolerance : ℕ)
    → (a b : WaveByTicks V) → (window : TickRange) → List TickRange → List (Difference V)
told_of same tolerance a b window ds =
    map (difference_at a b) (filter (λ ticks. not (is_forgiven same tolerance window a ticks)) ds)

-- two waves have been compared from the tick `first` to t: for each end of the window from t on,
-- what was found and what the differences to come give are all that stands
pub record HasCompared {V : Type 0} (same : V → V → Bool) (tolerance : ℕ) (a b : WaveByTicks V)
    (first t : ℕ) (c : WaveComparison V) : Type 0 where
  pub from : first ≤ t
  pub tolerance_is : c.tolerance ≡ tolerance
  pub open_is : IsOpenIf same a b first t c.value c.open_difference
  pub found : List (Difference V)
  pub found_is : c.found ≡ summary found
  pub few : length found ≤ t
  pub all : (last : ℕ) → t ≤ last
      → map (difference_at a b) (standing same tolerance a b (ticks_between first last))
      ≡ found ++ told_of same tolerance a b (ticks_between first last)
      (differences_from (differ_at same a b) (begun c.open_difference) (suc t) (last - t))
