-- A line that is streamed, or is not.
use Rattle.std.proofs.Common.{ap, ◌∙◌}
use Rattle.std.proofs.lemmas.Result.{IfOk-weaker, IfErr-weaker}
use Rattle.vcd_journal.specs.Machine.{Machine}
use Rattle.vcd_amend_run.proofs.planned_lines.PlainAnswers.{plain_answers, plain_ends}
use Rattle.vcd_amend_run.proofs.planned_lines.answering.run_line.Goals as goal

pub returns-in-Some-clause-answers : goal.returns-in-Some-clause-answers
returns-in-Some-clause-answers g c =
    IfOk-weaker c.run_streamed.result _ _
    (λ taken answers file whole silent h is at machine. answers file whole silent h is at
    (c.capture.ensures.now ∙ ap (λ (m : Machine). m.now) machine))
    c.run_streamed.ensures.answers

pub returns-in-Some-clause-stops : goal.returns-in-Some-clause-stops
returns-in-Some-clause-stops g c =
    IfErr-weaker c.run_streamed.result _ _
    (λ e ends. (
      ends.0,
      λ file whole silent h is at machine. ends.1 file whole silent h is at
          (c.capture.ensures.now ∙ ap (λ (m : Machine). m.now) machine),
      ends.2,
    ))
    c.run_streamed.ensures.stops

pub returns-in-None-clause-answers : goal.returns-in-None-clause-answers
returns-in-None-clause-answers g c =
    IfOk-weaker c.run_plain.result _ _
    (plain_answers (g.O.Reopen.whole c.args.again.now) c.args.line.now c.args.session.now c.in-None.ensures _ _ _)
    c.run_plain.ensures.answers

pub returns-in-None-clause-stops : goal.returns-in-None-clause-stops
returns-in-None-clause-stops g c =
    IfErr-weaker c.run_plain.result _ _
    (plain_ends (g.O.Reopen.whole c.args.again.now) c.args.line.now c.args.session.now c.in-None.ensures _ _ _ _)
    c.run_plain.ensures.stops
