use Rattle.vcd_edit.proofs.shared.EffectLaws.{cut_keeps_other_ticks}
use Rattle.vcd_edit.proofs.laws.cut_keeps_other_ticks.Goals as goal

pub returns : goal.returns
returns c = cut_keeps_other_ticks
