use Rattle.std.proofs.Common.{◌∙◌, ◌++◌, All, ap, refl, sym, subst, length, map, take, drop, arith}
use Rattle.std.proofs.lemmas.List.{length-map}
use Rattle.vcd_core.specs.CaptureContents.{contents}
use Rattle.vcd_edit.specs.AppliedRecords.{apply_record, with_signal_in_out, Fits, HasNeitherPiecesNorSignal}
use Rattle.vcd_edit.specs.Records.{piece_view, record_view, signal_view}
use Rattle.vcd_edit.specs.inside.exchange.Opposites.{opposite_signal}
use Rattle.vcd_edit.specs.inside.exchange.Pieces.{PieceReadyIn, HaveRoom}
use Rattle.vcd_core.specs.declared.capture.Capture.{Capture}
use Rattle.vcd_edit.proofs.exchange.ExchangedRecords.{pieces_ready, IsExchanged, ready_then, word_then, room_then}
use Rattle.vcd_edit.proofs.exchange.ExchangedRecords.{Begun, exchanged}
use Rattle.vcd_edit.proofs.shared.TouchedChanges.{whole_list}
use Rattle.vcd_edit.proofs.exchange.records.exchange_record.Goals.{In-Ok-exchange_signal, After-exchange_end-other_end}
use Rattle.vcd_edit.proofs.exchange.records.exchange_record.Goals as goal

pub reserve_all-requires : goal.reserve_all-requires
reserve_all-requires c =
    let now = contents c.args.capture.now in
    let p = c.applied_record.inside in let v = record_view p.pieces.items p.word p.signal p.other_end in
    let fits : Fits v now = subst (λ r. Fits r now) (sym c.applied_record.view_is) c.requires.fits in
    record {
      ready = subst (λ ps. All (PieceReadyIn now) (map piece_view ps)) (sym c.as_mut_slice.ensures.value)
          (pieces_ready now v c.applied_record.invariant c.requires.sound fits);
    }

-- the record fits, and its signal was put in or taken out
begun : (c : In-Ok-exchange_signal) → let p = c.applied_record.inside in
    Begun (contents c.args.capture.now) (record_view p.pieces.items p.word p.signal p.other_end)
    (map piece_view (take p.pieces.len (c.reserve_all.new.pieces ++ drop (length c.reserve_all.new.pieces)
    p.pieces.items))) (contents c.exchange_signal.new.capture)
begun c =
    let p = c.applied_record.inside in
    record {
      fits = subst (λ r. Fits r (contents c.args.capture.now)) (sym c.applied_record.view_is) c.requires.fits;
      one = c.applied_record.invariant;
      sound = c.requires.sound;
      whole = ap (map piece_view) (whole_list p.pieces.len c.reserve_all.new.pieces p.pieces.items
          (omega (arith, c.as_mut_slice.ensures.len, c.reserve_all.auto.pieces))) ∙ c.reserve_all.ensures.pieces
          ∙ ap (map piece_view) c.as_mut_slice.ensures.value;
      to_moved = c.in-Ok-exchange_signal.ensures.effect
          ∙ ap (with_signal_in_out (signal_view p.signal)) c.reserve_all.ensures.contents;
    }

-- all parts were exchanged
done : (c : After-exchange_end-other_end) → let p = c.applied_record.inside in
    Begun (contents c.args.capture.now) (record_view p.pieces.items p.word p.signal p.other_end)
    (map piece_view (take p.pieces.len (c.reserve_all.new.pieces ++ drop (length c.reserve_all.new.pieces)
    p.pieces.items))) (contents c.exchange_signal.new.capture)
    → IsExchanged (contents c.args.capture.now) (record_view p.pieces.items p.word p.signal p.other_end)
    (contents c.exchange_end-other_end.new.capture)
    (record_view c.exchange_pieces.new.pieces.items c.exchange_word-word.result c.in-Ok-exchange_signal.signal
    c.exchange_end-other_end.result)
done c b =
    exchanged b _ c.exchange_pieces.ensures.effect _ _ _ _ c.exchange_word-word.ensures.effect
    c.exchange_end-other_end.ensures.effect c.exchange_pieces.ensures.restores refl
    c.exchange_word-word.ensures.restores
    (c.in-Ok-exchange_signal.ensures.restores
    ∙ ap (opposite_signal (signal_view c.applied_record.inside.signal)) c.reserve_all.ensures.contents)
    c.exchange_end-other_end.ensures.restores

pub exchange_pieces-requires-clause-ready : goal.exchange_pieces-requires-clause-ready
exchange_pieces-requires-clause-ready c =
    ready_then (begun (goal.at.exchange_pieces-requires-clause-ready c).In-Ok-exchange_signal)

pub exchange_pieces-requires-clause-room : goal.exchange_pieces-requires-clause-room
exchange_pieces-requires-clause-room c =
    let p = c.applied_record.inside.pieces in
    let new = c.reserve_all.new.pieces in
    let lent = c.as_mut_slice.ensures.len in
    room_then c.applied_record.inside.signal p.len c.reserve_all.new.capture.signals _ _ c.in-Ok.comings.items
    (λ some. omega (arith, ap length (c.applied_record.invariant.signal_alone some).0, length-map p.items piece_view))
    (λ none. ap (λ (x : Capture). x.signals) (c.exchange_signal.ensures.unchanged_without_signal none))
    (subst (λ ps. HaveRoom c.reserve_all.new.capture.signals ps c.in-Ok.comings.items 0 p.len)
    (sym (whole_list p.len new p.items (omega (arith, lent, c.reserve_all.auto.pieces))))
    (λ k d from to. c.in-Ok.ensures.room k d from (omega (arith, to, lent, c.reserve_all.auto.pieces))))

pub exchange_word-word-requires-clause-fits : goal.exchange_word-word-requires-clause-fits
exchange_word-word-requires-clause-fits c =
    (word_then (begun (goal.at.exchange_word-word-requires-clause-fits c).In-Ok-exchange_signal) _
    c.exchange_pieces.ensures.effect).0

pub exchange_word-word-requires-clause-named : goal.exchange_word-word-requires-clause-named
exchange_word-word-requires-clause-named c =
    (word_then (begun (goal.at.exchange_word-word-requires-clause-named c).In-Ok-exchange_signal) _
    c.exchange_pieces.ensures.effect).1

pub invariant_of-result : goal.invariant_of-result
invariant_of-result c =
    let path = goal.at.invariant_of-result c in
    (done path.After-exchange_end-other_end (begun path.In-Ok-exchange_signal)).one

pub returns-in-Ok-exchange_signal-clause-effect : goal.returns-in-Ok-exchange_signal-clause-effect
returns-in-Ok-exchange_signal-clause-effect c =
    let path = goal.at.returns-in-Ok-exchange_signal-clause-effect c in
    (done path.After-exchange_end-other_end (begun path.In-Ok-exchange_signal)).effect
    ∙ ap (λ r. apply_record r (contents c.args.capture.now)) c.applied_record.view_is

pub returns-in-Ok-exchange_signal-clause-restores : goal.returns-in-Ok-exchange_signal-clause-restores
returns-in-Ok-exchange_signal-clause-restores c =
    let path = goal.at.returns-in-Ok-exchange_signal-clause-restores c in
    rw c.applied_record.view_is at
    (done path.After-exchange_end-other_end (begun path.In-Ok-exchange_signal)).leads

pub returns-in-Ok-exchange_signal-clause-neither : goal.returns-in-Ok-exchange_signal-clause-neither
returns-in-Ok-exchange_signal-clause-neither c =
    let path = goal.at.returns-in-Ok-exchange_signal-clause-neither c in
    let q = record_view c.exchange_pieces.new.pieces.items c.exchange_word-word.result c.in-Ok-exchange_signal.signal
    c.exchange_end-other_end.result in
    subst (λ r. HasNeitherPiecesNorSignal r → HasNeitherPiecesNorSignal q) c.applied_record.view_is
    (done path.After-exchange_end-other_end (begun path.In-Ok-exchange_signal)).neither
