use Rattle.vcd_script.proofs.shared.AnsweredLines.{step_accepted}
use Rattle.vcd_script.proofs.replies.answering.answer_step.Goals as goal

pub returns-in-Ok-clause-answers : goal.returns-in-Ok-clause-answers
returns-in-Ok-clause-answers c =
    step_accepted c.args.number c.args.step.now c.args.session.now c.make_step.new.self c.in_ok-accepted.accepted
    c.in-Ok.ensures.step (c.in_ok-accepted.ensures c.args.number)
