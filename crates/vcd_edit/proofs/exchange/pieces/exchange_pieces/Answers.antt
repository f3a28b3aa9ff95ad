use Rattle.std.proofs.Common.{◌∙◌, All, refl, subst, sym, ap, map, get_or, None, arith}
use Rattle.std.proofs.lemmas.List.{take_all}
use Rattle.vcd_core.specs.CaptureContents.{contents}
use Rattle.vcd_edit.specs.AppliedRecords.{with_pieces, RiseFrom}
use Rattle.vcd_edit.specs.Records.{piece_view}
use Rattle.vcd_edit.specs.inside.exchange.Pieces.{AreOppositePieces, PieceReadyIn, HasRoomForPiece, CanBePutIn}
use Rattle.vcd_edit.proofs.shared.TouchedChanges.{whole_list}
use Rattle.vcd_edit.proofs.exchange.PiecesInTurn.{next_signal, next_piece_room, next_coming, wave_ready, wave_room}
use Rattle.vcd_edit.proofs.exchange.PiecesInTurn.{put_more}
use Rattle.vcd_edit.proofs.exchange.pieces.exchange_pieces.Goals as goal

pub loop-piece-init : goal.loop-piece-init
unfolding with_pieces
loop-piece-init c =
    let given = c.as_mut_slice-piece-items in
    let ss = c.args.capture.now.signals in (
      record {
        rest = refl;
        there = refl;
        back = tt;
        ready = subst (λ ps. All (PieceReadyIn (contents c.args.capture.now)) (map piece_view ps))
            (sym given.ensures.value) c.requires.ready;
        rise = (0, subst (λ ps. RiseFrom 0 (map piece_view ps)) (sym given.ensures.value) c.requires.rise);
        room = λ k d from to. subst (λ ps. HasRoomForPiece ss (get_or ps k d) (get_or c.args.comings.items k None))
            (sym given.ensures.value) (c.requires.room k d from (omega (arith, to, given.ensures.len)));
      },
      c.into_iter-comings.ensures.rest,
    )

pub item_mut-requires : goal.item_mut-requires
item_mut-requires c = next_signal c.piece-item.result c.loop-piece.capture c.loop-piece.invariant.0 (omega arith)

pub exchange_with_wave-requires-clause-ready : goal.exchange_with_wave-requires-clause-ready
exchange_with_wave-requires-clause-ready c =
    wave_ready c.piece-item.result c.loop-piece.capture c.loop-piece.invariant.0 (omega arith) c.item_mut.result.now
    c.item_mut.ensures.value

pub exchange_with_wave-requires-clause-room : goal.exchange_with_wave-requires-clause-room
exchange_with_wave-requires-clause-room c =
    let l = c.loop-piece in
    let next = next_coming c.args.comings.items l.comings.rest.items c.next.new.self.rest.items l.piece-index
    l.comings.rest.len c.next.new.self.rest.len c.next.result l.invariant.1 (omega arith) (omega arith)
    c.next.ensures.cases in
    subst (CanBePutIn c.item_mut.result.now.wave (get_or l.piece-items l.piece-index c.piece-item.result))
    (next.0 ∙ sym c.unwrap_or.ensures)
    (wave_room c.piece-item.result l.capture l.invariant.0 (omega arith) c.item_mut.result.now c.item_mut.ensures.value)

pub exchange_with_wave-requires-clause-piece_room : goal.exchange_with_wave-requires-clause-piece_room
exchange_with_wave-requires-clause-piece_room c =
    next_piece_room c.piece-item.result c.loop-piece.capture c.loop-piece.invariant.0 (omega arith)

pub loop-piece-preserved : goal.loop-piece-preserved
loop-piece-preserved c =
    let l = c.loop-piece in
    let next = next_coming c.args.comings.items l.comings.rest.items c.next.new.self.rest.items l.piece-index
    l.comings.rest.len c.next.new.self.rest.len c.next.result l.invariant.1 (omega arith) (omega arith)
    c.next.ensures.cases in
    let e = c.exchange_with_wave.ensures in (
      put_more c.piece-item.result l.capture l.invariant.0 (omega arith) c.item_mut.result.now c.item_mut.ensures.value
          c.exchange_with_wave.new.piece c.exchange_with_wave.new.wave e.width e.effect e.restores,
      next.1,
    )

pub returns-clause-effect : goal.returns-clause-effect
returns-clause-effect c =
    let l = c.loop-piece in
    let given = c.as_mut_slice-piece-items in
    l.invariant.0.there
    ∙ ap (λ ps. with_pieces (contents c.args.capture.now) (map piece_view ps))
    (take_all l.piece-index given.result.now (omega arith) ∙ given.ensures.value)

pub returns-clause-restores : goal.returns-clause-restores
returns-clause-restores c =
    let l = c.loop-piece in
    let given = c.as_mut_slice-piece-items in
    let all = take_all l.piece-index given.result.now (omega arith) ∙ given.ensures.value in
    let new = take_all l.piece-index l.piece-items (omega arith)
    ∙ sym (whole_list c.args.pieces.now.len l.piece-items c.args.pieces.now.items (omega (arith, given.ensures.len))) in
    subst (λ (t : Type 0). t)
    (λ i. AreOppositePieces (contents c.args.capture.now) (map piece_view (all i)) (map piece_view (new i)))
    l.invariant.0.back
