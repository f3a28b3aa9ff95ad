use Rattle.std.proofs.Common.{[], ◌∷◌, ◌∙◌}
use Rattle.vcd_remarks.specs.ValueRuns.{runs_begun}
use Rattle.vcd_remarks.proofs.deglitch_finder.RunsTaken.{no_run_left}
use Rattle.vcd_remarks.proofs.deglitch_finder.DeglitchFinder.findings.Goals as goal

pub returns : goal.returns
unfolding runs_begun
returns c =
    (λ i. c.of_kind.ensures i ∷ c.of_kind-2.ensures i ∷ c.of_kind-3.ensures i ∷ c.of_kind-4.ensures i ∷ [])
    ∙ no_run_left c.args.self.now.rule _ ∙ c.take.ensures []
