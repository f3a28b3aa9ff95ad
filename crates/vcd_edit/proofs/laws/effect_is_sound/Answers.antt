use Rattle.vcd_edit.proofs.shared.SoundEffects.{effect_is_sound}
use Rattle.vcd_edit.proofs.laws.effect_is_sound.Goals as goal

pub returns : goal.returns
returns c = effect_is_sound
