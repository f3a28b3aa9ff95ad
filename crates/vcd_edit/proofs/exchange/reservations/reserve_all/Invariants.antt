use Rattle.std.proofs.Common.{◌≡◌, ◌≤◌, map, vec_len}
use Rattle.vcd_core.specs.CaptureContents.{contents}
use Rattle.vcd_edit.specs.Records.{piece_view}
use Rattle.vcd_edit.specs.inside.exchange.Pieces.{HaveRoom}
use Rattle.vcd_edit.proofs.exchange.reservations.reserve_all.Given as goal

-- the first pieces have what they need
abbrev pub invariant-loop-index : goal.invariant-loop-index
invariant-loop-index l = (contents l.capture ≡ contents l.fn.capture)
    × (map piece_view l.pieces ≡ map piece_view l.fn.pieces) × (vec_len l.comings ≤ l.index)
    × HaveRoom l.capture.signals l.pieces l.comings.items 0 l.index
