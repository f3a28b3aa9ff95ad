use Rattle.std.proofs.Common.{◌≡◌, ◌∙◌, sym, ap, subst, get_or, rules, w64, FitsSigned, to_z}
use Rattle.std.proofs.lemmas.Int.{to_z-of_z}
use Rattle.std.proofs.lemmas.Slice.Eq.{slice_eq-Decides}
use Rattle.vcd_core.specs.declared.capture.Signal.{Signal}
use Rattle.vcd_core.specs.WaveView.{WaveView}
use Rattle.vcd_edit.specs.inside.exchange.Pieces.{wave_at}
use Rattle.vcd_edit.proofs.exchange.ExchangedPieces.{wave_is_there}
use Rattle.vcd_edit.proofs.exchange.PiecesInTurn.{same_coming}
use Rattle.vcd_edit.proofs.shared.TouchedChanges.{same_change-Decides}
use Rattle.vcd_edit.proofs.exchange.reservations.have_same_result.Goals as goal

pub returns-then-eq : goal.returns-then-eq
returns-then-eq c = λ shared.
    let signals = c.args.capture.now.signals in
    let p = c.args.piece.now in
    let q = c.args.other.now in
    let p_range : FitsSigned w64 p.by = search rules in
    let q_range : FitsSigned w64 q.by = search rules in
    let here : wave_at signals p.signal ≡ c.index-signals-piece.result.wave =
    wave_is_there signals p.signal c.index-signals-piece.result c.requires.signal
    (subst (λ l. c.index-signals-piece.result ≡ get_or l p.signal c.index-signals-piece.result)
    c.signals.ensures c.index-signals-piece.is) in
    let there : wave_at signals q.signal ≡ c.index-signals-other.result.wave =
    wave_is_there signals q.signal c.index-signals-other.result c.requires.other_signal
    (subst (λ l. c.index-signals-other.result ≡ get_or l q.signal c.index-signals-other.result)
    c.signals-2.ensures c.index-signals-other.is) in
    let changes : p.changes.items ≡ q.changes.items = sym c.as_slice.ensures.value
    ∙ (slice_eq-Decides same_change-Decides _ _ _ c.eq.ensures).0 c.if-eq.true ∙ c.as_slice-2.ensures.value in
    same_coming (wave_at signals p.signal) (wave_at signals q.signal) p q
    c.if-piece-other.false
    c.if-piece-other-2.false
    (sym (to_z-of_z w64 p.by p_range) ∙ ap (to_z w64) c.if-piece-other-3.false ∙ to_z-of_z w64 q.by q_range) changes
    (ap (λ (w : WaveView). w.width) here ∙ ap (λ (s : Signal). s.wave.width) c.index-signals-piece.is
    ∙ c.shares_list_with.ensures.width shared
    ∙ ap (λ (s : Signal). s.wave.width) (sym c.index-signals-other.is) ∙ sym (ap (λ (w : WaveView). w.width) there))
    (ap (λ (w : WaveView). w.changes) here ∙ ap (λ (s : Signal). s.wave.changes) c.index-signals-piece.is
    ∙ c.shares_list_with.ensures.changes shared ∙ ap (λ (s : Signal). s.wave.changes) (sym c.index-signals-other.is)
    ∙ sym (ap (λ (w : WaveView). w.changes) there))
