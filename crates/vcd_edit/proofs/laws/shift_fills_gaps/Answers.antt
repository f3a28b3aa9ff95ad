use Rattle.vcd_edit.proofs.shared.EffectLaws.{shift_fills_gaps}
use Rattle.vcd_edit.proofs.laws.shift_fills_gaps.Goals as goal

pub returns : goal.returns
returns c = shift_fills_gaps
