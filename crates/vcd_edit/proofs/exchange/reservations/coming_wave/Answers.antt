-- The earlier piece is ready, and what comes for it comes for this piece.
use Rattle.std.proofs.Common.{◌≡◌, ◌∙◌, Some, None, sym, subst, refl, get_or, arith}
use Rattle.std.proofs.lemmas.List.{get_or_default}
use Rattle.vcd_core.specs.CaptureContents.{contents}
use Rattle.vcd_edit.specs.inside.exchange.Pieces.{CanBePutIn, wave_at}
use Rattle.vcd_edit.proofs.exchange.PiecesInTurn.{ready_at, signal_is_there}
use Rattle.vcd_edit.proofs.exchange.reservations.coming_wave.Goals as goal

pub have_same_result-requires-clause-other_signal : goal.have_same_result-requires-clause-other_signal
have_same_result-requires-clause-other_signal c =
    signal_is_there (contents c.args.capture.now) c.args.capture.now.signals c.index-pieces-index.result refl
    (ready_at (contents c.args.capture.now) c.args.pieces.now c.loop-index.index c.index-pieces-index.result
    (omega (arith, c.requires.within)) c.index-pieces-index.is c.requires.ready)

-- what comes for the earlier piece
pub returns-then-have_same_result : goal.returns-then-have_same_result
returns-then-have_same_result c =
    let q = c.index-pieces-index.result in
    let signals = c.args.capture.now.signals in
    let index = c.loop-index.index in
    let was = (c.requires.room index q (omega arith) (omega arith)).wave in
    let held : get_or c.args.comings.now index None ≡ Some c.in-Some.wave =
    get_or_default c.args.comings.now index None c.index-comings-index.result (omega arith)
    ∙ sym c.index-comings-index.is ∙ c.in-Some.is in
    let coming : CanBePutIn (wave_at signals q.signal) q (Some c.in-Some.wave) =
    subst (λ p. CanBePutIn (wave_at signals p.signal) p (Some c.in-Some.wave)) (sym c.index-pieces-index.is)
    (subst (CanBePutIn (wave_at signals (get_or c.args.pieces.now index q).signal) (get_or c.args.pieces.now index q))
    held was) in
    c.if-have_same_result.ensures refl c.in_ok-coming.coming
    (record {
      width = c.in_ok-coming.ensures.width ∙ coming.width;
      changes = c.in_ok-coming.ensures.changes ∙ coming.changes;
    })
