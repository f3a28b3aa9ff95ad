-- An index among rising ticks shows which changes are at most a tick, and which are later.
use Rattle.std.proofs.Common.{◌≡◌, ℕ, ◌+◌, ◌-◌, ◌<◌, ◌≤◌, Bool, true, false, nat_le, List, length, take, drop, get_or}
use Rattle.std.proofs.Common.{All, slice_range, sym, ap, ◌∙◌, arith, inl, inr}
use Rattle.std.specs.List.{count_by}
use Rattle.std.proofs.lemmas.Bool.{cases_lt, le-leb, lt-leb}
use Rattle.std.proofs.lemmas.List.{get_or-take, get_or-drop, length-take-le, length-drop}
use Rattle.std.proofs.lemmas.List.Edits.{length-between, get_or-between}
use Rattle.std.proofs.lemmas.List.Elements.{All-from_get_or}
use Rattle.vcd_core.specs.Value.{all_x}
use Rattle.vcd_core.specs.declared.wave.Change.{Change}
use Rattle.vcd_core.specs.Wave.{IsWave}
use Rattle.vcd_core.proofs.shared.Pushes.{ticks_do_not_fall, count_is, no_change}

module _ (width : ℕ) (cs : List Change) (is : IsWave width cs) (tick : ℕ) where
  -- where a change is at most a tick, so are those before it
  pub early_before : (index : ℕ) (last : Change) → 0 < index → index ≤ length cs
      → (get_or cs (index - 1) last).tick ≤ tick → All (λ c. c.tick ≤ tick) (take index cs)
  early_before index last some within early = All-from_get_or (λ c. c.tick ≤ tick) (take index cs) last (λ k inside.
      let below : k < index = omega (arith, length-take-le index cs within) in
      rw (get_or-take index cs k last below) (omega (
        arith,
        early,
        ticks_do_not_fall 0 (all_x width) cs is.rise k (index - 1) last (omega arith) (omega arith),
      )))

  -- where a change is later than a tick, so are those after it
  pub late_from : (index : ℕ) (first : Change) → index < length cs → tick < (get_or cs index first).tick
      → All (λ c. tick < c.tick) (drop index cs)
  late_from index first within late = All-from_get_or (λ c. tick < c.tick) (drop index cs) first (λ k inside.
      rw (get_or-drop index cs k first) (omega (
        arith,
        late,
        ticks_do_not_fall 0 (all_x width) cs is.rise index (index + k) first (omega arith)
            (omega (arith, length-drop index cs)),
      )))

  -- the ticks of a part do not fall
  pub part_rises : (from to : ℕ) → from ≤ to → to ≤ length cs → (i j : ℕ) (d : Change) → i ≤ j
      → j < length (slice_range cs from to)
      → (get_or (slice_range cs from to) i d).tick ≤ (get_or (slice_range cs from to) j d).tick
  part_rises from to ordered within i j d le inside =
      let long = length-between cs from to within in
      rw (get_or-between cs from to i d (omega (arith, long)), get_or-between cs from to j d (omega (arith, long)))
      (ticks_do_not_fall 0 (all_x width) cs is.rise (from + i) (from + j) d (omega arith) (omega (arith, long)))

  -- a point that parts a part of the changes counts all that are at most a tick, where those before
  -- the part are, and those after it are later
  pub point_counts : (from to n : ℕ) → from ≤ to → to ≤ length cs → n ≤ length (slice_range cs from to)
      → All (λ c. c.tick ≤ tick) (take from cs) → All (λ c. tick < c.tick) (drop to cs)
      → ((k : ℕ) → k < n → nat_le (get_or (slice_range cs from to) k no_change).tick tick ≡ true)
      → ((k : ℕ) → n ≤ k → k < length (slice_range cs from to)
      → nat_le (get_or (slice_range cs from to) k no_change).tick tick ≡ false)
      → from + n ≡ count_by (λ c. nat_le c.tick tick) cs
  point_counts from to n ordered within bound early late passes fails =
      sym (count_is (λ c. nat_le c.tick tick) cs (from + n) no_change (omega (arith, long)) pass fail)
    where
      long : length (slice_range cs from to) ≡ to - from
      long = length-between cs from to within

      test : Change → Bool
      test c = nat_le c.tick tick

      pass : (k : ℕ) → k < from + n → test (get_or cs k no_change) ≡ true
      pass k below = elim (cases_lt k from) [
        | inl before ↦ ap test (sym (get_or-take from cs k no_change before))
            ∙ le-leb _ _ (early k no_change (omega (arith, length-take-le from cs (omega arith))))
        | inr inside ↦
            let index : from + (k - from) ≡ k = omega arith in
            ap (λ i. test (get_or cs i no_change)) (sym index)
            ∙ ap test (sym (get_or-between cs from to (k - from) no_change (omega (arith, long))))
            ∙ passes (k - from) (omega arith)
      ]

      fail : (k : ℕ) → from + n ≤ k → k < length cs → test (get_or cs k no_change) ≡ false
      fail k from_on below = elim (cases_lt k to) [
        | inl inside ↦
            let index : from + (k - from) ≡ k = omega arith in
            ap (λ i. test (get_or cs i no_change)) (sym index)
            ∙ ap test (sym (get_or-between cs from to (k - from) no_change (omega arith)))
            ∙ fails (k - from) (omega arith) (omega (arith, long))
        | inr following ↦
            let index : to + (k - to) ≡ k = omega arith in
            ap (λ i. test (get_or cs i no_change)) (sym index) ∙ ap test (sym (get_or-drop to cs (k - to) no_change))
            ∙ lt-leb _ _ (late (k - to) no_change (omega (arith, length-drop to cs)))
      ]
