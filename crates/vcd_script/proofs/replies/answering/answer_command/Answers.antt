use Rattle.std.proofs.Common.{sym, subst}
use Rattle.std.specs.Prelude.{IfOk}
use Rattle.std.proofs.lemmas.Result.{IfOk-weaker}
use Rattle.vcd_script.specs.declared.script.command.Command.{Command}
use Rattle.vcd_script.specs.declared.script.command.Command.TheVariants as commands
use Rattle.vcd_script.specs.inside.replies.Answering.{AnswersStep, AnswersCommand}
use Rattle.vcd_script.proofs.shared.AnsweredLines.{command_steps}
use Rattle.vcd_script.proofs.replies.answering.answer_command.Goals as goal

pub returns-in-Step-clause-answers : goal.returns-in-Step-clause-answers
returns-in-Step-clause-answers c =
    let old = c.args.session.now in
    let new = c.answer_step.new.session in
    let step = c.in-Step.step in
    subst (λ (command : Command). IfOk c.answer_step.result
    (λ reply. AnswersCommand c.args.skipped c.args.number command old new reply)) (sym c.in-Step.is)
    (IfOk-weaker c.answer_step.result (λ reply. AnswersStep c.args.number step old new reply)
    (λ reply. AnswersCommand c.args.skipped c.args.number (commands.Step step) old new reply)
    (λ reply. command_steps c.args.skipped c.args.number step old new reply) c.answer_step.ensures.answers)
