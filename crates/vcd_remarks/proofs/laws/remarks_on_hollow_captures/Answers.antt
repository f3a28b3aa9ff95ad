use Rattle.vcd_remarks.proofs.shared.RemarksOnHollow.{remarks_with_others, remarks_on_hollow}
use Rattle.vcd_remarks.proofs.laws.remarks_on_hollow_captures.Goals as goal

pub returns-clause-command : goal.returns-clause-command
returns-clause-command c = remarks_with_others

pub returns-clause-line : goal.returns-clause-line
returns-clause-line c = remarks_on_hollow
