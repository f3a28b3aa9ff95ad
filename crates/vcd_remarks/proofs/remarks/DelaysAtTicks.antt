-- The delays that a remark tells are those at all ticks.
use Rattle.std.proofs.Common.{◌≡◌, ◌≢◌, ℕ, zero, suc, ◌+◌, ◌-◌, ◌<◌, ◌≤◌, ◌==◌, ◌&&◌, ◌||◌, nat_lt, nat_le}
use Rattle.std.proofs.Common.{Bool, true, false, not, cond, if◌then◌else◌, List, [], ◌∷◌, map, All}
use Rattle.std.proofs.Common.{ap, sym, ◌∙◌, arith, inl, inr}
use Rattle.std.specs.List.{filter, range_with_len}
use Rattle.std.proofs.lemmas.Bool.{cases_Bool}
use Rattle.std.proofs.lemmas.Bool.Decides.{nat_tests}
use Rattle.std.proofs.lemmas.List.Elements.{All-head, All-tail}
use Rattle.vcd_core.specs.declared.bit.Bit.{Bit}
use Rattle.vcd_core.specs.Value.{same_letters}
use Rattle.vcd_core.specs.inside.value.EqualByLetters.{same_letters-Decides}
use Rattle.vcd_core.specs.Contents.{Contents, signal_at}
use Rattle.vcd_edit.specs.declared.edit.Edit.TheVariants.{Deglitch}
use Rattle.vcd_edit.specs.Effect.{is_steady, effect}
use Rattle.vcd_edit.specs.EffectLaws.{value_of}
use Rattle.vcd_edit.proofs.shared.RunsOfOneValue.{steady_here}
use Rattle.vcd_remarks.specs.EditFindings.{edge_delay, delayed_edges}
use Rattle.vcd_remarks.specs.declared.findings.found_spans.Span.{Span}
use Rattle.vcd_remarks.specs.FoundTicks.{span}
use Rattle.vcd_remarks.specs.ValueRuns.{ValueRun, is_pulse, value_runs}
use Rattle.vcd_remarks.specs.RemarkLaws.{AreRunsFrom, IsTakenOutIfPulse, PulsesAreTakenOut}
use Rattle.vcd_remarks.specs.RemarkLaws.{unsteady_before, delay_at, DelaysAreAll}
use Rattle.vcd_remarks.proofs.remarks.AllRuns.{value_runs_are_all}
use Rattle.vcd_remarks.proofs.remarks.PulsesTakenOut.{up_to_end}

-- the edges that are late
abbrev positive : List Span → List Span
positive ss = filter (λ s. nat_lt 0 s.ticks) ss

-- those after an edge
positive_then : (d : Span) (xs ys : List Span) → positive xs ≡ positive ys → positive (d ∷ xs) ≡ positive (d ∷ ys)
positive_then d xs ys same = ap (λ (l : List Span). cond (nat_lt 0 d.ticks) (d ∷ l) l) same

-- ---- steady ticks

-- a run is steady unless it is a pulse
steady_tests : (a b end n : ℕ) → b ≤ end
    → (a == 0 || b == end || nat_le n (b - a + 1)) ≡ not (nat_lt 0 a && nat_lt b end && nat_lt (b - a + 1) n)
steady_tests a b end n within = grind (arith, nat_tests)

steady_in : (ticks end : ℕ) (f : ℕ → List Bit) (r : ValueRun) → r.first ≤ r.last → r.last ≤ end
    → ((t : ℕ) → r.first ≤ t → t ≤ r.last → f t ≡ r.value) → ((p : ℕ) → suc p ≡ r.first → f r.first ≢ f p)
    → (r.last < end → f (suc r.last) ≢ r.value) → (t : ℕ) → r.first ≤ t → t ≤ r.last
    → is_steady ticks end f t ≡ not (is_pulse ticks end r)
steady_in ticks end f r ordered within same begins ends t from to =
    steady_here ticks end f r.first r.last ordered within
    (λ s late early. same s late early ∙ sym (same r.first (omega arith) ordered)) begins
    (λ less is. ends less (is ∙ same r.last ordered (omega arith))) t from to
    ∙ steady_tests r.first r.last end ticks within

-- a row of ticks that are not steady
unsteady_row : (steady : ℕ → Bool) (t n : ℕ) → ((s : ℕ) → t ≤ s → s < t + n → steady s ≡ false)
    → unsteady_before steady (t + n) ≡ unsteady_before steady t + n
unfolding unsteady_before
unsteady_row steady t zero none = ap (unsteady_before steady) {x = t + 0} {y = t} (omega arith) ∙ omega arith
unsteady_row steady t (suc n) none =
    ap (unsteady_before steady) {x = t + suc n} {y = suc (t + n)} (omega arith)
    ∙ ap (λ b. if b then 0 else suc (unsteady_before steady (t + n))) (none (t + n) (omega arith) (omega arith))
    ∙ ap suc (unsteady_row steady t n (λ s from to. none s from (omega arith))) ∙ omega arith

-- none comes right after a steady tick
none_after : (steady : ℕ → Bool) (t : ℕ) → steady t ≡ true → unsteady_before steady (suc t) ≡ 0
unfolding unsteady_before
none_after steady t is = ap (λ b. if b then 0 else suc (unsteady_before steady t)) is

-- ---- the delays at ticks

module _ (c : Contents) (k ticks : ℕ) where
  abbrev f : ℕ → List Bit
  f = value_of c k

  abbrev after : ℕ → List Bit
  after = value_of (effect (Deglitch k ticks) c) k

  abbrev steady : ℕ → Bool
  steady = is_steady ticks c.end f

  abbrev delays : (t n : ℕ) → List Span
  delays t n = map (λ s. span s (delay_at c k ticks s)) (range_with_len t n)

  abbrev staying : List ValueRun → List ValueRun
  staying rs = filter (λ r. not (is_pulse ticks c.end r)) rs

  -- where the signal does not change
  no_delay : (t : ℕ) → after t ≡ after (t - 1) → delay_at c k ticks t ≡ 0
  no_delay t same =
      ap (λ b. if b then 0 else unsteady_before steady t) ((same_letters-Decides (after t) (after (t - 1))).1 same)

  -- ticks at which it does not
  no_edges : (t n m : ℕ) → ((s : ℕ) → t ≤ s → s < t + n → after s ≡ after (s - 1))
      → positive (delays t (n + m)) ≡ positive (delays (t + n) m)
  no_edges t zero m same = λ i. positive (delays (start i) (count i))
    where
      start : t ≡ t + 0
      start = omega arith

      count : 0 + m ≡ m
      count = omega arith
  no_edges t (suc n) m same =
      ap (λ j. positive (delays t j)) {x = suc n + m} {y = suc (n + m)} (omega arith)
      ∙ ap (λ d. positive (span t d ∷ delays (t + 1) (n + m))) (no_delay t (same t (omega arith) (omega arith)))
      ∙ no_edges (t + 1) n m (λ s from to. same s (omega arith) (omega arith))
      ∙ ap (λ s. positive (delays s m)) {x = t + 1 + n} {y = t + suc n} (omega arith)

  -- those from the first tick of a run on
  from_run : (r : ValueRun) (n m : ℕ) → r.first + n ≡ suc r.last + m → r.first ≤ r.last
      → ((t : ℕ) → r.first < t → t ≤ r.last → after t ≡ after (t - 1))
      → positive (delays r.first n) ≡ positive (span r.first (delay_at c k ticks r.first) ∷ delays (suc r.last) m)
  from_run r n m whole ordered same =
      let p : ℕ = r.last - r.first in
      ap (λ j. positive (delays r.first j)) {x = n} {y = suc (p + m)} (omega arith)
      ∙ positive_then (span r.first (delay_at c k ticks r.first)) (delays (r.first + 1) (p + m)) (delays (suc r.last) m)
      (no_edges (r.first + 1) p m (λ s from to. same s (omega arith) (omega arith))
      ∙ ap (λ s. positive (delays s m)) {x = r.first + 1 + p} {y = suc r.last} (omega arith))

  -- ---- run by run

  follow : (before : ValueRun) (rs : List ValueRun) (from n : ℕ) → 0 < from → from + n ≡ suc c.end
      → AreRunsFrom f from c.end rs → All (IsTakenOutIfPulse c k ticks) rs
      → (from ≤ c.end → f from ≢ f (from - 1)) → after (from - 1) ≡ before.value → before.last < from
      → unsteady_before steady from ≡ from - before.last - 1
      → positive (delays from n) ≡ positive (delayed_edges (before ∷ staying rs))
  unfolding delayed_edges
  follow before [] from n some whole done out other same past unsteady =
      ap (λ j. positive (delays from j)) {x = n} {y = 0} (omega arith)
  follow before (r ∷ rs) from n some whole (at, ordered, alike, changes, rest) out other same past unsteady =
      let within : r.last ≤ c.end = omega (arith, up_to_end f (suc r.last) c.end rs rest) in
      let m : ℕ = c.end - r.last in
      let here = All-head (IsTakenOutIfPulse c k ticks) r rs out in
      let later = All-tail (IsTakenOutIfPulse c k ticks) r rs out in
      let last : suc r.last - 1 ≡ r.last = omega arith in
      let tests : (t : ℕ) → r.first ≤ t → t ≤ r.last → steady t ≡ not (is_pulse ticks c.end r) =
      steady_in ticks c.end f r ordered within alike
      (λ p is equal. other (omega arith) (ap f (sym at) ∙ equal ∙ ap f {x = p} {y = from - 1} (omega arith))) changes in
      let next : suc r.last ≤ c.end → f (suc r.last) ≢ f (suc r.last - 1) =
      λ inside equal. changes (omega arith) (equal ∙ ap f last ∙ alike r.last ordered (omega arith)) in
      let prior : after (r.first - 1) ≡ before.value = ap (λ t. after (t - 1)) at ∙ same in
      let count : unsteady_before steady r.first ≡ r.first - before.last - 1 =
      ap (unsteady_before steady) at ∙ unsteady ∙ ap (λ t. t - before.last - 1) (sym at) in
      ap (λ t. positive (delays t n)) (sym at)
      ∙ from_run r n m (omega arith) ordered
      (λ t late early. here t (omega arith) early ∙ sym (here (t - 1) (omega arith) (omega arith)))
      ∙ elim (cases_Bool (is_pulse ticks c.end r)) [
        | inl pulse ↦
            let kept : (t : ℕ) → r.first ≤ t → t ≤ r.last → after t ≡ after (r.first - 1) =
            λ t late early. here t late early
            ∙ ap (λ b. if b then after (r.first - 1) else r.value) pulse in
            ap (λ d. positive (span r.first d
            ∷ delays (suc r.last) m)) (no_delay r.first (kept r.first (omega arith) ordered))
            ∙ follow before rs (suc r.last) m (omega arith) (omega arith) rest later next
            (ap after last ∙ kept r.last ordered (omega arith) ∙ prior) (omega arith)
            (ap (unsteady_before steady) {x = suc r.last} {y = r.first + (suc r.last - r.first)} (omega arith)
            ∙ unsteady_row steady r.first (suc r.last - r.first)
            (λ t late early. tests t late (omega arith) ∙ ap not pulse)
            ∙ ap (λ u. u + (suc r.last - r.first)) count ∙ omega arith)
            ∙ ap (λ b. positive (delayed_edges (before ∷ cond (not b) (r ∷ staying rs) (staying rs)))) (sym pulse)
        | inr stays ↦
            let kept : (t : ℕ) → r.first ≤ t → t ≤ r.last → after t ≡ r.value =
            λ t late early. here t late early
            ∙ ap (λ b. if b then after (r.first - 1) else r.value) stays in
            let first : after r.first ≡ r.value = kept r.first (omega arith) ordered in
            (λ i. positive (span r.first (if same_letters (first i) (prior i) then 0 else count i)
            ∷ delays (suc r.last) m))
            ∙ positive_then (span r.first (edge_delay before r)) (delays (suc r.last) m) (delayed_edges (r
            ∷ staying rs))
            (follow r rs (suc r.last) m (omega arith) (omega arith) rest later next
            (ap after last ∙ kept r.last ordered (omega arith)) (omega arith)
            (none_after steady r.last (tests r.last ordered (omega arith) ∙ ap not stays) ∙ omega arith))
            ∙ ap (λ b. positive (delayed_edges (before ∷ cond (not b) (r ∷ staying rs) (staying rs)))) (sym stays)
      ]

  from_zero : (rs : List ValueRun) → AreRunsFrom f 0 c.end rs → All (IsTakenOutIfPulse c k ticks) rs
      → positive (delayed_edges (staying rs)) ≡ positive (delays 0 (suc c.end))
  from_zero [] runs out = absurd (omega (arith, runs))
  from_zero (r ∷ rs) (at, ordered, alike, changes, rest) out =
      let within : r.last ≤ c.end = omega (arith, up_to_end f (suc r.last) c.end rs rest) in
      let m : ℕ = c.end - r.last in
      let last : suc r.last - 1 ≡ r.last = omega arith in
      let stays : is_pulse ticks c.end r ≡ false =
      ap (λ (t : ℕ). is_pulse ticks c.end (record { first = t; last = r.last; value = r.value })) at in
      let kept : (t : ℕ) → r.first ≤ t → t ≤ r.last → after t ≡ r.value =
      λ t late early. All-head (IsTakenOutIfPulse c k ticks) r rs out t late early
      ∙ ap (λ b. if b then after (r.first - 1) else r.value) stays in
      ap (λ b. positive (delayed_edges (cond (not b) (r ∷ staying rs) (staying rs)))) stays
      ∙ sym (ap (λ j. positive (delays 0 j)) {x = suc c.end} {y = suc r.last + m} (omega arith)
      ∙ no_edges 0 (suc r.last) m
      (λ t late early. kept t (omega arith) (omega arith) ∙ sym (kept (t - 1) (omega arith) (omega arith)))
      ∙ ap (λ t. positive (delays t m)) {x = 0 + suc r.last} {y = suc r.last} (omega arith)
      ∙ follow r rs (suc r.last) m (omega arith) (omega arith) rest (All-tail (IsTakenOutIfPulse c k ticks) r rs out)
      (λ inside equal. changes (omega arith) (equal ∙ ap f last ∙ alike r.last ordered (omega arith)))
      (ap after last ∙ kept r.last ordered (omega arith)) (omega arith)
      (none_after steady r.last
      (steady_in ticks c.end f r ordered within alike (λ p is. absurd (omega arith)) changes r.last ordered
      (omega arith) ∙ ap not stays) ∙ omega arith))

pub delays_are_all : PulsesAreTakenOut → DelaysAreAll
delays_are_all pulses c k ticks sound within fine =
    from_zero c k ticks (value_runs c.end (signal_at c k)) (value_runs_are_all c k sound within)
    (pulses c k ticks sound within fine)
