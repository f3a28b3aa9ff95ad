use Rattle.vcd_hollow.proofs.shared.Cuts.{cuts_keep_order, cuts_are_one}
use Rattle.vcd_hollow.proofs.laws.cuts_are_one.Goals as goal

pub returns-clause-order : goal.returns-clause-order
returns-clause-order c = cuts_keep_order

pub returns-clause-capture : goal.returns-clause-capture
returns-clause-capture c = cuts_are_one
