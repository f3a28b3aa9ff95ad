use Rattle.std.proofs.Common.{◌≡◌, ℕ, Bool, true, false, not, Option, Some, None, refl, sym, ap, ◌∙◌, ◌++◌, arith}
use Rattle.std.specs.Option.{is_some}
use Rattle.std.proofs.lemmas.Bool.{both_ways}
use Rattle.vcd_compare.specs.Differences.{WaveByTicks, summary}
use Rattle.vcd_compare.specs.inside.WaveComparison.{begun_with, standing_end}
use Rattle.vcd_compare.specs.declared.wave_comparison.OpenDifference.{OpenDifference}
use Rattle.vcd_compare.proofs.shared.Steps.{step_same, step_apart, opened}
use Rattle.vcd_compare.proofs.wave_comparison.WaveComparison.change.Goals as goal

opened_first : {V : Type 0} (same : V → V → Bool) (tolerance : ℕ) (a b : WaveByTicks V) (first : ℕ)
    (o : Option (OpenDifference V)) (value : Option V) (tick : ℕ) (va vb : V) → is_some o ≡ false → va ≡ a tick
    → vb ≡ b tick → Some (begun_with value tick va vb) ≡ opened same tolerance a b first o value tick
opened_first same tolerance a b first None value tick va vb none is_a is_b =
    λ i. Some (begun_with value tick (is_a i) (is_b i))
opened_first same tolerance a b first (Some o) value tick va vb none is_a is_b = absurd (both_ways _ none refl)

opened_before : {V : Type 0} (same : V → V → Bool) (tolerance : ℕ) (a b : WaveByTicks V) (first : ℕ)
    (o : Option (OpenDifference V)) (value : Option V) (tick : ℕ) → is_some o ≡ true
    → o ≡ opened same tolerance a b first o value tick
opened_before same tolerance a b first None value tick some = absurd (both_ways _ refl some)
opened_before same tolerance a b first (Some o) value tick some = refl

pub returns-then-eq : goal.returns-then-eq
returns-then-eq g c tolerance wave other first t later is keep_a keep_b is_a is_b =
    let same = g.V.PartialEq.eq in
    let old = c.args.self.now in
    step_same same tolerance wave other first t c.args.tick old _ later is keep_a keep_b
    ((λ i. same (sym is_a i) (sym is_b i)) ∙ sym c.eq.ensures ∙ c.if-eq.true)
    c.end_difference.ensures.tolerance c.end_difference.ensures.open (ap Some (c.in_ok-copied.ensures ∙ is_a))
    (λ before few was. c.end_difference.ensures.found before (omega (arith, c.ranges.tick)) was
    ∙ ap (λ v. summary (before ++ standing_end same old.tolerance old.open_difference c.args.tick v)) is_a)

pub returns-in_ok-copied-3 : goal.returns-in_ok-copied-3
returns-in_ok-copied-3 g c tolerance wave other first t later is keep_a keep_b is_a is_b =
    let same = g.V.PartialEq.eq in
    let old = c.args.self.now in
    let step = c.begin_difference.ensures in
    step_apart same tolerance wave other first t c.args.tick old _ later is keep_a keep_b
    ((λ i. same (sym is_a i) (sym is_b i)) ∙ sym c.eq.ensures ∙ c.if-eq.false)
    (ap (λ s. s.tolerance) step)
    (ap (λ s. s.open_difference) step
    ∙ opened_first same tolerance wave other first old.open_difference old.value c.args.tick c.in_ok-copied-2.field-0
    c.in_ok-copied-3.field-0 (c.is_none.ensures ∙ ap not c.if-is_none.true) (c.in_ok-copied-2.ensures ∙ is_a)
    (c.in_ok-copied-3.ensures ∙ is_b))
    (ap (λ s. s.found) step)

pub returns-else-is_none : goal.returns-else-is_none
returns-else-is_none g c tolerance wave other first t later is keep_a keep_b is_a is_b =
    let same = g.V.PartialEq.eq in
    let old = c.args.self.now in
    step_apart same tolerance wave other first t c.args.tick old _ later is keep_a keep_b
    ((λ i. same (sym is_a i) (sym is_b i)) ∙ sym c.eq.ensures ∙ c.if-eq.false)
    refl
    (opened_before same tolerance wave other first old.open_difference old.value c.args.tick
    (c.is_none.ensures ∙ ap not c.if-is_none.false))
    refl
