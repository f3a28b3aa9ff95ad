use Rattle.std.proofs.Common.{[], ◌∷◌}
use Rattle.vcd_remarks.specs.declared.findings.finding_kind.FindingKind.TheVariants as kinds
use Rattle.vcd_remarks.specs.declared.lost_lines.Pull.TheVariants.{Floating}
use Rattle.vcd_remarks.specs.inside.ClockRuns.{changes_of_place}
use Rattle.vcd_remarks.specs.inside.FoundTicks.{finding_at}
use Rattle.vcd_remarks.specs.inside.LostLines.{loses_line_at}
use Rattle.vcd_remarks.proofs.clock_runs.ShortRuns.{same_short}
use Rattle.vcd_remarks.proofs.shared.FoundSoFar.{tick_taken}
use Rattle.vcd_remarks.proofs.spi_clock.ClockFinder.take.Goals as goal

pub returns-clause-findings : goal.returns-clause-findings
returns-clause-findings c = λ more.
    let changes = changes_of_place 0 more in
    let lost = tick_taken (loses_line_at Floating 0) c.args.self.now.lost c.args.edge.now more _ _
    c.become_lost-lost.ensures c.with_tick_if-self.ensures in
    let low = same_short _ _ _ _ (c.take.ensures changes) (c.take.ensures changes) in
    let high = same_short _ _ _ _ (c.take-2.ensures changes) (c.take-2.ensures changes) in
    λ i. finding_at kinds.ClkLost (lost i) ∷ finding_at kinds.ClkShortLow (low i)
    ∷ finding_at kinds.ClkShortHigh (high i) ∷ []
