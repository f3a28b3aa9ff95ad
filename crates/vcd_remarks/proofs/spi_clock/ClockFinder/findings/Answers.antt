use Rattle.std.proofs.Common.{[], ◌∷◌, ap, ◌∙◌}
use Rattle.vcd_remarks.specs.declared.findings.finding_kind.FindingKind.TheVariants as kinds
use Rattle.vcd_remarks.specs.inside.ClockRuns.{below, ended_runs}
use Rattle.vcd_remarks.specs.inside.FoundTicks.{finding_at, with_ticks}
use Rattle.vcd_remarks.proofs.spi_clock.ClockFinder.findings.Goals as goal

pub returns : goal.returns
unfolding with_ticks below ended_runs
returns c =
    let low = c.of_kind-2.ensures ∙ ap (finding_at kinds.ClkShortLow) c.short_beside-low.ensures in
    let high = c.of_kind-3.ensures ∙ ap (finding_at kinds.ClkShortHigh) c.short_beside-high.ensures in
    λ i. c.of_kind.ensures i ∷ low i ∷ high i ∷ []
