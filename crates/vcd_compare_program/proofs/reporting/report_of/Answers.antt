-- What is shown of both captures is that of their streams' states.
use Rattle.std.proofs.Common.{subst}
use Rattle.std.proofs.lemmas.Result.{IfOk-weaker}
use Rattle.vcd_compare_program.specs.CaptureFacts.{capture_facts, left_out_told}
use Rattle.vcd_compare_program.specs.inside.Facts.{facts_of, meaning_with_all}
use Rattle.vcd_compare_program.specs.inside.Reports.{IsReportOf}
use Rattle.vcd_compare_program.proofs.reporting.report_of.Goals as goal

pub returns : goal.returns
returns c =
    let r = c.args.asked.now in
    let told = c.args.comparison.now in
    IfOk-weaker c.report_on.result _ _ (λ made is. λ s t at other_at.
    subst (λ f. IsReportOf r f (capture_facts r.second.now (meaning_with_all t) told.second.factor
    (left_out_told r.is_strict told.second.left_out)) told made) (c.in_ok-first.ensures s at)
    (subst (λ f. IsReportOf r (facts_of c.in_ok-first.first) f told made) (c.in_ok-second.ensures t other_at) is))
    c.report_on.ensures
