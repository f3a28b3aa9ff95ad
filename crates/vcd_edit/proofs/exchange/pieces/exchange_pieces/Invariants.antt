-- The first pieces were put in, and the waves that come for the others are left.
use Rattle.std.proofs.Common.{◌≡◌, drop}
use Rattle.std.specs.Vec.Iter.{into_iter_items}
use Rattle.vcd_core.specs.CaptureContents.{contents}
use Rattle.vcd_edit.specs.inside.exchange.Pieces.{ExchangedSoFar}
use Rattle.vcd_edit.proofs.exchange.pieces.exchange_pieces.Given as goal

abbrev pub invariant-loop-piece : goal.invariant-loop-piece
invariant-loop-piece l =
    ExchangedSoFar (contents l.fn.capture) l.initial.piece-items l.piece-index l.piece-items (contents l.capture)
    l.capture.signals l.fn.comings.items × (into_iter_items l.comings ≡ drop l.piece-index l.fn.comings.items)
