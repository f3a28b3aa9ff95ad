use Rattle.std.proofs.Common.{Some, None, refl, sym, ap, ◌∙◌}
use Rattle.vcd_compare.specs.inside.WaveComparison.{begun_with}
use Rattle.vcd_compare.proofs.shared.Steps.{begin_same, begin_apart}
use Rattle.vcd_compare.proofs.wave_comparison.WaveComparison.new.Goals as goal

pub returns-then-eq : goal.returns-then-eq
returns-then-eq g c wave other is_a is_b =
    let same = g.V.PartialEq.eq in
    begin_same same c.args.tolerance wave other c.args.first _ refl c.none.ensures
    ((λ i. same (sym is_a i) (sym is_b i)) ∙ sym c.eq.ensures ∙ c.if-eq.true) refl (ap Some is_a)

pub returns : goal.returns
returns g c wave other is_a is_b =
    let same = g.V.PartialEq.eq in
    let is = c.begin_difference.ensures in
    begin_apart same c.args.tolerance wave other c.args.first _ (ap (λ s. s.tolerance) is)
    (ap (λ s. s.found) is ∙ c.none.ensures)
    ((λ i. same (sym is_a i) (sym is_b i)) ∙ sym c.eq.ensures ∙ c.if-eq.false)
    (ap (λ s. s.open_difference) is ∙ λ i. Some (begun_with None c.args.first (is_a i) (is_b i)))
