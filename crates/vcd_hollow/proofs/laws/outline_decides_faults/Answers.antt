use Rattle.vcd_hollow.proofs.shared.Outlines.{fault_is_of_outline, effect_keeps_outlines}
use Rattle.vcd_hollow.proofs.laws.outline_decides_faults.Goals as goal

pub returns-clause-fault : goal.returns-clause-fault
returns-clause-fault c = fault_is_of_outline

pub returns-clause-effect : goal.returns-clause-effect
returns-clause-effect c = effect_keeps_outlines
