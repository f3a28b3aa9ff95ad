use Rattle.vcd_edit.proofs.shared.EffectLaws.{derived_beside_first_operand}
use Rattle.vcd_edit.proofs.laws.derived_beside_first_operand.Goals as goal

pub returns : goal.returns
returns c = derived_beside_first_operand
