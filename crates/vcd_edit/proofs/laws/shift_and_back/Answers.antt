use Rattle.vcd_edit.proofs.shared.EffectLaws.{shift_and_back}
use Rattle.vcd_edit.proofs.laws.shift_and_back.Goals as goal

pub returns : goal.returns
returns c = shift_and_back
