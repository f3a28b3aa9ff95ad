use Rattle.std.proofs.Common.{◌∙◌, ◌↔◌, IsTrue, List, map, subst, sym, ap}
use Rattle.std.specs.Option.{unwrap_or}
use Rattle.vcd_core.specs.CaptureContents.{contents, signal_contents}
use Rattle.vcd_edit.specs.declared.record.Piece.{Piece}
use Rattle.vcd_edit.specs.AppliedRecords.{RiseFrom}
use Rattle.vcd_edit.specs.Records.{piece_view, word_view, signal_view}
use Rattle.vcd_edit.specs.inside.fitting.FittingTests.{KindFits}
use Rattle.vcd_edit.proofs.fitting.FittingPieces.{refused, both_pass}
use Rattle.vcd_edit.proofs.fitting.FittingRecords.{fits_tells}
use Rattle.vcd_edit.proofs.record.Record.fits.Goals as goal

pub returns-then-not-is_metadata_sound : goal.returns-then-not-is_metadata_sound
returns-then-not-is_metadata_sound c =
    let end = c.unwrap_or-end.ensures ∙ ap (unwrap_or c.self.inside.other_end) c.end.ensures in
    let tells = fits_tells _ _ (contents c.args.capture.now) _ c.self.view_is c.self.invariant end in
    refused c.is_metadata_sound.result _ c.if-not-is_metadata_sound.true
    (λ fits. c.is_metadata_sound.ensures.1 (tells.0 fits).0)

pub fields_fit-requires-clause-rise : goal.fields_fit-requires-clause-rise
fields_fit-requires-clause-rise c =
    subst (λ (l : List Piece). RiseFrom 0 (map piece_view l)) (sym c.as_slice.ensures.value) c.self.invariant.rise

pub returns : goal.returns
returns c =
    let end = c.unwrap_or-end.ensures ∙ ap (unwrap_or c.self.inside.other_end) c.end.ensures in
    let now = contents c.args.capture.now in
    both_pass _ _ (fits_tells _ _ now _ c.self.view_is c.self.invariant end) c.is_metadata_sound.ensures
    c.if-not-is_metadata_sound.false
    (subst (λ (l : List Piece). IsTrue c.fields_fit.result ↔ KindFits c.unwrap_or-end.result now (map piece_view l)
    (word_view c.self.inside.word) (signal_view c.self.inside.signal)) c.as_slice.ensures.value
    (c.fields_fit.ensures now (ap (map signal_contents) (sym c.signals.ensures))))
