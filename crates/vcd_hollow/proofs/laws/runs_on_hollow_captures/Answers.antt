use Rattle.vcd_hollow.proofs.shared.HollowRuns.{reply_with_others, answer_on_hollow, run_on_hollow}
use Rattle.vcd_hollow.proofs.shared.FittingCuts.{cuts_of_run_fit}
use Rattle.vcd_hollow.proofs.laws.runs_on_hollow_captures.Goals as goal

pub returns-clause-reply : goal.returns-clause-reply
returns-clause-reply c = reply_with_others

pub returns-clause-answer : goal.returns-clause-answer
returns-clause-answer c = answer_on_hollow

pub returns-clause-run : goal.returns-clause-run
returns-clause-run c = run_on_hollow

pub returns-clause-cuts : goal.returns-clause-cuts
returns-clause-cuts c = cuts_of_run_fit
