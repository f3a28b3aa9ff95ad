use Rattle.vcd_edit.proofs.fitting.FittingPieces.{both_pass, one_fails}
use Rattle.vcd_edit.proofs.fitting.FittingRecords.{others_tell}
use Rattle.vcd_edit.proofs.fitting.sound_names.are_others_sound.Goals as goal

pub returns-then-are_sound : goal.returns-then-are_sound
returns-then-are_sound c =
    both_pass _ _ (others_tell c.args.end c.args.at c.args.signals.now) c.are_sound.ensures c.if-are_sound.true
    c.are_sound-then-are_sound.ensures

pub returns-else-are_sound : goal.returns-else-are_sound
returns-else-are_sound c =
    one_fails _ (others_tell c.args.end c.args.at c.args.signals.now) c.are_sound.ensures c.if-are_sound.false
