use Rattle.vcd_core.specs.CaptureContents.{signal_contents}
use Rattle.vcd_edit.proofs.fitting.FittingPieces.{both_pass, one_fails}
use Rattle.vcd_edit.proofs.fitting.FittingRecords.{put_tells}
use Rattle.vcd_edit.proofs.fitting.may_be_put_in.Goals as goal

pub returns-then-is_sound : goal.returns-then-is_sound
returns-then-is_sound c =
    both_pass _ _ (put_tells c.args.end c.args.at (signal_contents c.args.signal.now) c.args.signals.now
    c.if-at-signals.false c.if-signals-ge-SIGNAL_LIMIT.false) c.is_sound.ensures c.if-is_sound.true c.are_sound.ensures

pub returns-else-is_sound : goal.returns-else-is_sound
returns-else-is_sound c =
    one_fails _ (put_tells c.args.end c.args.at (signal_contents c.args.signal.now) c.args.signals.now
    c.if-at-signals.false c.if-signals-ge-SIGNAL_LIMIT.false) c.is_sound.ensures c.if-is_sound.false
