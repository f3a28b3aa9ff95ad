use Rattle.vcd_text.proofs.shared.FoundFault.{prefix_fault_stays}
use Rattle.vcd_text.proofs.laws.prefix_fault_stays.Goals as goal

pub returns : goal.returns
returns c = prefix_fault_stays
