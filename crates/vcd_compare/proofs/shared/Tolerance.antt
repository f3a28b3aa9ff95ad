-- With a tolerance no difference stands exactly if the waves are the same, but for late edges.
use Rattle.std.proofs.Common.{◌≡◌, ℕ, ◌+◌, ◌-◌, ◌<◌, ◌≤◌, ◌↔◌, ◌⊎◌, Bool, true, not, []}
use Rattle.std.proofs.Common.{subst, inl, inr, arith}
use Rattle.std.specs.Prelude.{IsTrue}
use Rattle.std.proofs.lemmas.Bool.{cases_Bool, both_ways, not-true, not-false, not_from_true, not_from_false}
use Rattle.std.proofs.lemmas.Bool.{and_parts, and_from, leb-true, le-leb, ltb-true, lt-ltb}
use Rattle.vcd_text.specs.declared.reading.choice.TickRange.{TickRange}
use Rattle.vcd_compare.specs.Differences.{WaveByTicks, differ_at, differences, standing, is_forgiven, IsDifference}
use Rattle.vcd_compare.specs.Laws.{IsInWindow, IsInLateEdge, AreSameIn}
use Rattle.vcd_compare.proofs.shared.FoundDifferences.{none_kept, keeps_none, differences_of_window, window_covered}
use Rattle.vcd_compare.proofs.shared.FoundDifferences.{same_difference}

module _ {V : Type 0} (same : V → V → Bool) (tolerance : ℕ) (a b : WaveByTicks V) (window : TickRange) where
  abbrev Is : TickRange → Type 0
  Is ticks = IsDifference (differ_at same a b) window ticks

  -- the ticks of a late edge are a difference, and it is forgiven
  forgiven_edge : (ticks : TickRange) → Is ticks → IsInLateEdge same tolerance a b window ticks.first
      → is_forgiven same tolerance window a ticks ≡ true
  forgiven_edge ticks is edge =
      let late : TickRange = record { first = edge.first; last = edge.last } in
      let after_first = edge.after_first in
      let before_last = edge.before_last in
      let begins_within = edge.begins_within in
      let ends_within = edge.ends_within in
      let in_order = is.in_order in
      let few = edge.few in
      let is_late : Is late = record {
        begins_within = omega arith;
        in_order = omega arith;
        ends_within = omega arith;
        holds = λ t from to. not_from_false _ (edge.apart t from to);
        not_before = λ _. not_from_true _ edge.same_before;
        not_after = λ _. not_from_true _ edge.same_after;
      } in
      subst (λ x. is_forgiven same tolerance window a x ≡ true)
      (same_difference (differ_at same a b) window late ticks ticks.first is_late is after_first before_last
      (omega arith) in_order)
      (and_from _ _ (le-leb (edge.last + 1 - edge.first) tolerance (omega arith))
      (and_from _ _ (lt-ltb window.first edge.first begins_within)
      (and_from _ _ (lt-ltb edge.last window.last ends_within)
      (not_from_false _ edge.edge))))

  -- a tick of a difference that is forgiven is in a late edge
  in_edge : (ticks : TickRange) (t : ℕ) → Is ticks → ticks.first ≤ t → t ≤ ticks.last
      → is_forgiven same tolerance window a ticks ≡ true
      → IsInLateEdge same tolerance a b window t
  in_edge ticks t is from to forgiven =
      let few = and_parts _ _ forgiven in
      let begins = and_parts _ _ few.1 in
      let ends = and_parts _ _ begins.1 in
      let in_order = is.in_order in
      let few_ticks : ticks.last + 1 - ticks.first ≤ tolerance = leb-true _ _ few.0 in
      let begins_within : window.first < ticks.first = ltb-true _ _ begins.0 in
      let ends_within : ticks.last < window.last = ltb-true _ _ ends.0 in
      record {
        first = ticks.first;
        last = ticks.last;
        after_first = from;
        before_last = to;
        few = omega arith;
        begins_within = begins_within;
        ends_within = ends_within;
        apart = λ s after before. not-true _ (is.holds s after before);
        same_before = not-false _ (is.not_before begins_within);
        same_after = not-false _ (is.not_after ends_within);
        edge = not-true _ ends.1;
      }

  pub none_stands : (standing same tolerance a b window ≡ [])
      ↔ ((t : ℕ) → IsInWindow window t → IsTrue (same (a t) (b t)) ⊎ IsInLateEdge same tolerance a b window t)
  none_stands = (
    (λ none t (from, to). elim (cases_Bool (differ_at same a b t)) [
      | inl apart ↦
          let (d, there, begins, ends) = window_covered (differ_at same a b) window t from to apart in
          inr (in_edge d t ((differences_of_window (differ_at same a b) window d).0 there) begins ends
          (not-false _ (none_kept (λ ticks. not (is_forgiven same tolerance window a ticks))
          (differences (differ_at same a b) window) none d there)))
      | inr alike ↦ inl (not-false _ alike)
    ]),
    (λ each. keeps_none (λ ticks. not (is_forgiven same tolerance window a ticks))
        (differences (differ_at same a b) window)
        (λ ticks there.
        let is : Is ticks = (differences_of_window (differ_at same a b) window ticks).0 there in
        let begins_within = is.begins_within in
        let in_order = is.in_order in
        let ends_within = is.ends_within in
        not_from_true _ (elim (each ticks.first (omega arith, omega arith)) [
          | inl alike ↦ absurd (both_ways _ (not-true _ (is.holds ticks.first (omega arith) in_order)) alike)
          | inr edge ↦ forgiven_edge ticks is edge
        ]))),
  )

pub none_stands_if_same : {V : Type 0} (same : V → V → Bool) (a b : WaveByTicks V) (window : TickRange)
    → (standing same 0 a b window ≡ []) ↔ AreSameIn same window a b
none_stands_if_same same a b window = (
  (λ none t is_in. elim ((none_stands same 0 a b window).0 none t is_in) [
    | inl alike ↦ alike
    | inr edge ↦ absurd (let few = edge.few in let from = edge.after_first in let to = edge.before_last in omega arith)
  ]),
  (λ each. (none_stands same 0 a b window).1 (λ t is_in. inl (each t is_in))),
)
