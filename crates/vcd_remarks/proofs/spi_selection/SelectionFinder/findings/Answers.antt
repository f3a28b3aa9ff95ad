use Rattle.std.proofs.Common.{[], ◌∷◌, ap, ◌∙◌}
use Rattle.vcd_remarks.specs.declared.findings.finding_kind.FindingKind.TheVariants as kinds
use Rattle.vcd_remarks.specs.inside.FoundTicks.{finding_at, with_ticks}
use Rattle.vcd_remarks.proofs.spi_selection.SelectionFinder.findings.Goals as goal

pub returns : goal.returns
unfolding with_ticks
returns c = λ setup.
    let unselected = c.of_kind-3.ensures ∙ ap (finding_at kinds.CsUnselected) c.unless_any-unselected.ensures in
    λ i. c.of_kind.ensures i ∷ c.of_kind-2.ensures i ∷ unselected i ∷ []
