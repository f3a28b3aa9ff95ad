use Rattle.vcd_edit.proofs.shared.EffectLaws.{remove_and_back}
use Rattle.vcd_edit.proofs.laws.remove_and_back.Goals as goal

pub returns : goal.returns
returns c = remove_and_back
