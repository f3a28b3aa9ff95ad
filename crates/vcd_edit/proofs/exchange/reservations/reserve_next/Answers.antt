-- What the next piece needs is made after what the earlier ones need.
use Rattle.std.proofs.Common.{◌<◌, ◌∙◌, All, sym, ap, subst, refl, length, map, set, arith}
use Rattle.std.proofs.lemmas.List.{get_or_past, length-set}
use Rattle.vcd_core.specs.CaptureContents.{contents}
use Rattle.vcd_edit.specs.declared.record.Piece.{Piece}
use Rattle.vcd_edit.specs.RecordView.{PieceView}
use Rattle.vcd_edit.specs.Records.{piece_view}
use Rattle.vcd_edit.specs.inside.exchange.Pieces.{PieceReadyIn, CanBePutIn, HasRoomInWave, wave_at}
use Rattle.vcd_edit.proofs.exchange.PiecesInTurn.{ready_at, signal_is_there, views_kept, have_more_room}
use Rattle.vcd_edit.proofs.exchange.reservations.reserve_next.Goals as goal

pub reserve_piece-requires : goal.reserve_piece-requires
reserve_piece-requires c =
    record {
      signal = subst (λ (p : Piece). p.signal < length c.args.capture.now.signals) c.index-pieces-index.is
          (signal_is_there (contents c.args.capture.now) c.args.capture.now.signals c.index-pieces-index.result refl
          (ready_at (contents c.args.capture.now) c.args.pieces.now c.args.index c.index-pieces-index.result
          c.requires.within c.index-pieces-index.is c.requires.ready));
    }

pub coming_wave-requires-clause-ready : goal.coming_wave-requires-clause-ready
coming_wave-requires-clause-ready c =
    let views = views_kept c.args.pieces.now c.args.index c.index-pieces-index.result c.reserve_piece.new.piece
    c.requires.within c.index-pieces-index.is
    (c.reserve_piece.ensures.piece ∙ ap piece_view (sym c.index-pieces-index.is)) in
    subst (λ k. All (PieceReadyIn k) (map piece_view (set c.args.pieces.now c.args.index c.reserve_piece.new.piece)))
    (sym c.reserve_piece.ensures.contents)
    (subst (All (PieceReadyIn (contents c.args.capture.now))) (sym views) c.requires.ready)

pub coming_wave-requires-clause-piece_ready : goal.coming_wave-requires-clause-piece_ready
coming_wave-requires-clause-piece_ready c =
    ready_at (contents c.reserve_piece.new.capture) (set c.args.pieces.now c.args.index c.reserve_piece.new.piece)
    c.args.index c.index-pieces-index-then-branch.result
    (omega (arith, length-set c.args.pieces.now c.args.index c.reserve_piece.new.piece, c.requires.within))
    c.index-pieces-index-then-branch.is (coming_wave-requires-clause-ready c)

pub returns-else-branch-clause-room : goal.returns-else-branch-clause-room
returns-else-branch-clause-room c =
    let y = c.reserve_piece.new.piece in
    have_more_room c.args.capture.now.signals c.reserve_piece.new.capture.signals c.args.pieces.now
    c.args.comings.now.items c.args.index y c.requires.within c.requires.room c.reserve_piece.ensures.never_less
    c.args.comings.now.items (λ k other. refl)
    (record {
      wave = subst (CanBePutIn (wave_at c.reserve_piece.new.capture.signals y.signal) y)
          (sym (get_or_past c.args.comings.now.items c.args.index _ (omega (arith, c.requires.count))))
          (subst (λ k. HasRoomInWave (wave_at c.reserve_piece.new.capture.signals k) y)
          (sym (ap (λ (v : PieceView). v.signal) c.reserve_piece.ensures.piece))
          (c.in_ok-reserve_piece.ensures.own c.if-branch.false));
      piece = c.in_ok-reserve_piece.ensures.room;
    })
