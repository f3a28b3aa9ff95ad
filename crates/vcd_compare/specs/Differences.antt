-- Where two waves differ, tick by tick, and which of these differences stand. The project's own.
use Rattle.std.specs.Prelude.{ℕ, zero, suc, ◌+◌, ◌-◌, ◌≤◌, ◌<◌, Bool, true, false, not, ◌&&◌}
use Rattle.std.specs.Prelude.{nat_le, nat_lt, IsTrue, IsFalse, Option, Some, None}
use Rattle.std.specs.Prelude.{List, [], ◌∷◌, ◌++◌, map, length, drop}
use Rattle.std.specs.List.{filter, slice_get, last_or}
use Rattle.vcd_text.specs.declared.reading.choice.TickRange.{TickRange}
use Rattle.vcd_compare.specs.declared.differences.Difference.{Difference}
use Rattle.vcd_compare.specs.declared.differences.Differences.{Differences}

-- a wave by its value at each tick. Values are of any type that has a test of sameness
abbrev pub WaveByTicks : Type 0 → Type 0
WaveByTicks V = ℕ → V

-- whether two waves differ at a tick
abbrev pub differ_at : {V : Type 0} → (same : V → V → Bool) → (a b : WaveByTicks V) → ℕ → Bool
differ_at same a b t = not (same (a t) (b t))

-- these ticks are a difference in a window, if a test tells at which ticks two waves differ: they
-- do at each of them, and not just before or just after, as far as that is in the window
pub record IsDifference (differ : ℕ → Bool) (window ticks : TickRange) : Type 0 where
  pub begins_within : window.first ≤ ticks.first
  pub in_order : ticks.first ≤ ticks.last
  pub ends_within : ticks.last ≤ window.last
  pub holds : (t : ℕ) → ticks.first ≤ t → t ≤ ticks.last → IsTrue (differ t)
  pub not_before : window.first < ticks.first → IsFalse (differ (ticks.first - 1))
  pub not_after : ticks.last < window.last → IsFalse (differ (ticks.last + 1))

-- ---- all differences

-- the ticks from one to another
abbrev pub ticks_between : (first last : ℕ) → TickRange
ticks_between first last = record { first = first; last = last }

-- a difference that has begun, if it ends just before a tick: the waves differ there or not
abbrev pub ended_before : Bool → (begun : Option ℕ) → ℕ → List TickRange
ended_before true begun t = []
ended_before false None t = []
ended_before false (Some first) t = ticks_between first (t - 1) ∷ []

-- where the difference began that holds at a tick, if the waves differ there
abbrev pub begun_at : Bool → (begun : Option ℕ) → ℕ → Option ℕ
begun_at false begun t = None
begun_at true None t = Some t
begun_at true (Some first) t = Some first

-- the differences among n ticks from t on; `begun` is where one began that holds just before t
unfoldable pub differences_from : (differ : ℕ → Bool) → (begun : Option ℕ) → (t n : ℕ)
    → List TickRange
differences_from differ begun t zero = ended_before false begun t
differences_from differ begun t (suc n) = ended_before (differ t) begun t
    ++ differences_from differ (begun_at (differ t) begun t) (suc t) n

-- the differences in a window, rising: all ticks that are one (law `finds_each_difference`)
abbrev pub differences : (differ : ℕ → Bool) → (window : TickRange) → List TickRange
differences differ window =
    differences_from differ None window.first (suc window.last - window.first)

-- ---- tolerance

-- whether a difference is forgiven: an edge from one value to another that is late in one of the
-- waves, by at most `tolerance` ticks. The waves are the same just before and just after it, so one
-- of them says whether this is an edge; if it is none, one wave has a pulse that the other has not
abbrev pub is_forgiven : {V : Type 0} → (same : V → V → Bool) → (tolerance : ℕ)
    → (window : TickRange) → WaveByTicks V → TickRange → Bool
is_forgiven same tolerance window a ticks =
    nat_le (ticks.last + 1 - ticks.first) tolerance
    && (nat_lt window.first ticks.first
    && (nat_lt ticks.last window.last
    && not (same (a (ticks.first - 1)) (a (ticks.last + 1)))))

-- the differences that stand: those that are not forgiven
abbrev pub standing : {V : Type 0} → (same : V → V → Bool) → (tolerance : ℕ)
    → (a b : WaveByTicks V) → (window : TickRange) → List TickRange
standing same tolerance a b window =
    filter (λ ticks. not (is_forgiven same tolerance window a ticks))
    (differences (differ_at same a b) window)

-- ---- what is told of them

-- a difference as it is told, with both values at its first tick
abbrev pub difference_at : {V : Type 0} → (a b : WaveByTicks V) → TickRange → Difference V
difference_at a b ticks = record {
  ticks = ticks;
  value_in_a = a ticks.first;
  value_in_b = b ticks.first;
}

-- how many there are, the first of them, and the last of the others
abbrev pub summary : {V : Type 0} → List (Difference V) → Differences V
summary ds = record {
  count = length ds;
  first = slice_get ds 0;
  last = last_or None (drop 1 ds);
}

-- what is told of two waves in a window
abbrev pub compared : {V : Type 0} → (same : V → V → Bool) → (tolerance : ℕ)
    → (a b : WaveByTicks V) → (window : TickRange) → Differences V
compared same tolerance a b window =
    summary (map (difference_at a b) (standing same tolerance a b window))
