use Rattle.std.proofs.Common.{◌≡◌, refl, sym, ap, ◌∙◌, true, false}
use Rattle.vcd_compare.proofs.shared.ShortestRuns.{goes_on, turned_to}
use Rattle.vcd_compare.proofs.shortest_run.ShortestRun.change.Goals as goal

pub returns-then-eq : goal.returns-then-eq
returns-then-eq g c wave first t later is keeps value =
    let same = g.V.PartialEq.eq in
    let old = c.args.self.now in
    let alike : same old.value c.args.value.now ≡ true = sym c.eq.ensures ∙ c.if-eq.true in
    goes_on same (λ v. (g.met.V.ComparedValue.decides v v).1 refl) wave first t c.args.tick old old later is keeps
    ((g.met.V.ComparedValue.decides old.value c.args.value.now).0 alike ∙ value) refl refl
    (ap (same old.value) (sym value) ∙ alike)

pub returns : goal.returns
returns g c wave first t later is keeps value =
    let same = g.V.PartialEq.eq in
    let old = c.args.self.now in
    let other : same old.value c.args.value.now ≡ false = sym c.eq.ensures ∙ c.if-eq.false in
    turned_to same (λ v. (g.met.V.ComparedValue.decides v v).1 refl) wave first t c.args.tick old _ later is keeps
    (c.in_ok-self.ensures ∙ value) (ap (λ s. s.turned) c.turn.ensures) (ap (λ s. s.shortest) c.turn.ensures)
    (ap (same old.value) (sym value) ∙ other)
