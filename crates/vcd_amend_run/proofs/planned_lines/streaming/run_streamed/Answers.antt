-- What is decoded of the file is the reply to the line on the whole capture.
use Rattle.std.proofs.Common.{◌≡◌, ℕ, List, refl, sym, subst, arith}
use Rattle.std.specs.Prelude.{IfOk}
use Rattle.std.proofs.KnownBytes.{Appends-nil}
use Rattle.vcd_core.specs.CaptureContents.{contents}
use Rattle.vcd_amend_run.proofs.planned_lines.StreamedAnswers.{streamed_answers, streamed_stops}
use Rattle.vcd_amend_run.proofs.planned_lines.streaming.run_streamed.Goals as goal

pub returns-in_default-clause-stops : goal.returns-in_default-clause-stops
returns-in_default-clause-stops g c =
    (0, λ file c silent h is at now_is. (omega arith, Appends-nil _), c.requires.ready)

pub returns-in-Ok-stream_command-clause-answers : goal.returns-in-Ok-stream_command-clause-answers
returns-in-Ok-stream_command-clause-answers g c =
    streamed_answers (g.O.Reopen.whole c.args.again.now) c.args.line.now c.args.streamed.now c.requires.is
    (contents c.args.capture.now) c.in-Ok.command c.in-Ok.ensures.command c.in-Ok.ensures.signals
    c.args.capture.now.end refl _ _ _ c.in-Ok-stream_command.taken c.in-Ok-stream_command.ensures.decoded refl refl
    (λ x y x_is y_is. c.joined.ensures x y
    (subst (λ (t : List ℕ). IfOk c.remarks_on_names-names.result (λ text. text.items ≡ t)) (sym x_is)
    c.remarks_on_names-names.ensures) y_is)

pub returns-in-Err-clause-stops : goal.returns-in-Err-clause-stops
returns-in-Err-clause-stops g c =
    let (count, some, stops) = c.in-Err.ensures.stops in (
      count,
      streamed_stops (g.O.Reopen.whole c.args.again.now) c.args.line.now c.args.streamed.now c.requires.is
          (contents c.args.capture.now) c.in-Ok.command c.in-Ok.ensures.command c.in-Ok.ensures.signals
          c.args.capture.now.end refl _ _ count some,
      stops,
    )
