use Rattle.vcd_remarks.proofs.shared.SessionRemarks.{session_remarks_are_run}
use Rattle.vcd_remarks.proofs.laws.session_remarks_are_run.Goals as goal

pub returns : goal.returns
returns c = session_remarks_are_run
