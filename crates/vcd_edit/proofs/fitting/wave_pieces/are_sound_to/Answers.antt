use Rattle.vcd_edit.specs.Records.{piece_view}
use Rattle.vcd_edit.proofs.fitting.FittingPieces.{both_pass, one_fails, to_tells}
use Rattle.vcd_edit.proofs.fitting.wave_pieces.are_sound_to.Goals as goal

pub returns-then-is_sound_with : goal.returns-then-is_sound_with
returns-then-is_sound_with c =
    both_pass _ _ (to_tells c.args.end c.args.signals.now c.args.next (piece_view c.args.piece.now)
    c.index-signals-piece.result c.if-piece-signals.false c.index-signals-piece.is) c.is_sound_with.ensures
    c.if-is_sound_with.true c.are_sound.ensures

pub returns-else-is_sound_with : goal.returns-else-is_sound_with
returns-else-is_sound_with c =
    one_fails _ (to_tells c.args.end c.args.signals.now c.args.next (piece_view c.args.piece.now)
    c.index-signals-piece.result c.if-piece-signals.false c.index-signals-piece.is) c.is_sound_with.ensures
    c.if-is_sound_with.false
