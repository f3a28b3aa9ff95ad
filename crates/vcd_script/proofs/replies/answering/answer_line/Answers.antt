use Rattle.std.proofs.Common.{Err, List, ℕ, refl, subst}
use Rattle.std.proofs.lemmas.Result.{IfOk-weaker}
use Rattle.vcd_script.specs.SessionLines.{AnswersLine, IsReplyTo}
use Rattle.vcd_script.specs.inside.replies.Answering.{AnswersCommand}
use Rattle.vcd_script.proofs.shared.AnsweredLines.{line_asks, line_stays}
use Rattle.vcd_script.proofs.replies.answering.answer_line.Goals as goal

pub returns-in-Ok-clause-answers : goal.returns-in-Ok-clause-answers
returns-in-Ok-clause-answers c =
    let old = c.args.session.now in
    let new = c.answer_command.new.session in
    let command = c.in-Ok.command in
    let read = rw (c.capture.ensures.now) at c.in-Ok.ensures.command in
    IfOk-weaker c.answer_command.result (λ reply. AnswersCommand c.args.skipped c.args.number command old new reply)
    (λ reply. AnswersLine c.args.skipped c.args.number c.args.line.now old new reply)
    (λ reply. line_asks c.args.skipped c.args.number c.args.line.now command old new reply read)
    c.answer_command.ensures.answers

pub returns-in-Err-clause-answers : goal.returns-in-Err-clause-answers
returns-in-Err-clause-answers c =
    let old = c.args.session.now in
    let read = rw (c.capture.ensures.now) at c.in-Err.ensures.fault in
    IfOk-weaker c.refused.result (λ reply. IsReplyTo c.args.number (Err c.name.result.now) reply)
    (λ reply. AnswersLine c.args.skipped c.args.number c.args.line.now old old reply)
    (λ reply tells. line_stays c.args.skipped c.args.number c.args.line.now (Err c.in-Err.fault) old reply read refl
    (subst (λ (name : List ℕ). IsReplyTo c.args.number (Err name) reply) c.name.ensures tells))
    c.refused.ensures
