use Rattle.std.proofs.Common.{[], ◌∷◌, ap, ◌∙◌}
use Rattle.vcd_remarks.specs.inside.ClockRuns.{below, ended_runs}
use Rattle.vcd_remarks.specs.inside.FoundTicks.{finding_at, with_ticks}
use Rattle.vcd_remarks.proofs.spi_line.DataFinder.findings.Goals as goal

pub returns : goal.returns
unfolding with_ticks below ended_runs
returns c = λ setup place.
    let short = c.of_kind-2.ensures ∙ ap (finding_at c.args.kinds.short) c.short_beside-short.ensures in
    let late = c.of_kind-4.ensures ∙ ap (finding_at c.args.kinds.late) c.if_more-late.ensures in
    λ i. c.of_kind.ensures i ∷ short i ∷ c.of_kind-3.ensures i ∷ late i ∷ []
