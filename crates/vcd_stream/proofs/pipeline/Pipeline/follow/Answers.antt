use Rattle.std.proofs.Common.{sym, ◌∙◌}
use Rattle.vcd_stream.specs.Pipelines.{FitsSignal, GivesSignal}
use Rattle.vcd_stream.proofs.shared.EditedSignals.{fits_edited}
use Rattle.vcd_stream.proofs.shared.SignalEdits.{allowed_seen, of_effect, fits_other, gives_other}
use Rattle.vcd_stream.proofs.pipeline.Pipeline.follow.Goals as goal
use Rattle.vcd_stream.proofs.pipeline.Pipeline.follow.Goals.{in-Some+in_ok-push, in_default}

pub push-requires-clause-allowed : goal.push-requires-clause-allowed
push-requires-clause-allowed g c =
    let (d, fits, none) = c.requires.allowed in
    allowed_seen c.args.edit.now d c.args.position c.in-Some.wave_edit (sym c.wave_edit_of.ensures ∙ c.in-Some.is)
    c.args.self.now fits none

pub returns-clause-fits : goal.returns-clause-fits
returns-clause-fits g c = λ d none fits.
    let e = c.args.edit.now in
    let k = c.args.position in
    elim c.match-wave_edit_of.branch [
      | in-Some+in_ok-push w ↦ rw (c.position_after.ensures, w.self-is)
          (of_effect e d k w.in-Some.wave_edit (sym c.wave_edit_of.ensures ∙ w.in-Some.is) (FitsSignal w.push.new.self)
          (fits_edited c.args.self.now w.push.new.self w.in-Some.wave_edit d k w.in_ok-push.ensures.width
          w.in_ok-push.ensures.end fits))
      | in_default w ↦ rw (c.position_after.ensures, w.self-is)
          (fits_other c.args.self.now e d k none (sym c.wave_edit_of.ensures ∙ w.in_default.is) fits)
    ]

pub returns-clause-gives : goal.returns-clause-gives
returns-clause-gives g c = λ fed d sound none gives.
    let e = c.args.edit.now in
    let k = c.args.position in
    let letters = g.V.Letters.letters in
    elim c.match-wave_edit_of.branch [
      | in-Some+in_ok-push w ↦ rw (c.position_after.ensures, w.self-is)
          (of_effect e d k w.in-Some.wave_edit (sym c.wave_edit_of.ensures ∙ w.in-Some.is)
          (GivesSignal letters w.push.new.self fed) (w.in_ok-push.ensures.gives fed d k sound gives))
      | in_default w ↦ rw (c.position_after.ensures, w.self-is)
          (gives_other c.args.self.now e d k none (sym c.wave_edit_of.ensures ∙ w.in_default.is) letters fed gives)
    ]
