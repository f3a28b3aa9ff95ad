use Rattle.std.proofs.Common.{map, ap, arith}
use Rattle.vcd_edit.specs.Records.{piece_view}
use Rattle.vcd_edit.proofs.plans.CutPieces.{lead_none, cut_without, cut_with, cut_end}
use Rattle.vcd_edit.proofs.plans.cut.cut_pieces.Goals as goal

pub loop-position-init : goal.loop-position-init
loop-position-init c = λ d are sound ends. lead_none d _ _ _ (ap (map piece_view) c.new-pieces.ensures.items)

pub loop-position-preserved-then-has_no_change_from : goal.loop-position-preserved-then-has_no_change_from
loop-position-preserved-then-has_no_change_from c = λ d are sound ends.
    cut_without d c.args.signals.now are sound c.args.from c.args.to c.requires.not_empty ends c.loop-position.position
    c.index-signals-position.result c.loop-position-test.true c.index-signals-position.is
    c.loop-position.pieces.items (c.has_no_change_from.ensures c.if-has_no_change_from.true)
    (c.loop-position.invariant d are sound ends)

pub loop-position-preserved : goal.loop-position-preserved
loop-position-preserved c = λ d are sound ends.
    cut_with d c.args.signals.now are sound c.args.from c.args.to c.requires.not_empty ends c.loop-position.position
    c.index-signals-position.result c.loop-position-test.true c.index-signals-position.is
    c.loop-position.pieces.items c.in_ok-piece.piece _ c.in_ok-piece.ensures c.in_ok-push.ensures.items
    (c.loop-position.invariant d are sound ends)

pub returns : goal.returns
returns c = λ d are sound ends.
    rw (c.shrink_to_fit.ensures.items) (cut_end d c.args.signals.now are c.args.from c.args.to c.loop-position.position
    (map piece_view c.loop-position.pieces.items) (omega arith) (c.loop-position.invariant d are sound ends))
