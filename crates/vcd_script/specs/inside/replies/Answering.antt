-- The effect of a command on a machine, and the reply to it.
use Rattle.std.specs.Prelude.{◌≡◌, ℕ, Bool, true, false, length, Ok, Err}
use Rattle.vcd_edit.specs.declared.fault.EditError.TheVariants as errors
use Rattle.vcd_journal.specs.declared.step.Answer.{Answer}
use Rattle.vcd_journal.specs.declared.step.Answer.TheVariants.{Done, Refused}
use Rattle.vcd_journal.specs.declared.step.Step.{Step}
use Rattle.vcd_journal.specs.declared.step.StepError.{StepError}
use Rattle.vcd_journal.specs.declared.step.StepError.TheVariants as refusals
use Rattle.vcd_journal.specs.Machine.{Machine, step_outcome}
use Rattle.vcd_journal.specs.StepErrorNames.{step_error_name}
use Rattle.vcd_script.specs.declared.replies.reply.Reply.{Reply}
use Rattle.vcd_script.specs.declared.script.command.Command.{Command}
use Rattle.vcd_script.specs.WithoutAddress.{command_without_address}
use Rattle.vcd_script.specs.Reply.{LineReply, command_reply, ok_reply, step_reply}
use Rattle.vcd_script.specs.SessionLines.{machine_after_command, IsReplyTo}

-- whether a step is refused because memory ran out
abbrev pub is_no_memory : StepError → Bool
is_no_memory refusals.NoMemory = true
is_no_memory (refusals.Edit errors.NoMemory) = true
is_no_memory refusal = false

-- the reply for an answer of the machine
abbrev pub answer_reply : Answer → LineReply
answer_reply Done = ok_reply
answer_reply (Refused refusal) = Err (step_error_name refusal)

-- the line of this number asks for the step; with enough memory the step changes one machine into
-- the other and has this reply
abbrev pub AnswersStep : (number : ℕ) → Step → Machine → Machine → Reply → Type 0
AnswersStep number step old new reply =
    ((step_outcome old step).after ≡ new)
    × IsReplyTo number (step_reply step old.now (length old.past) (length old.future)) reply

-- the same for what the line asks for
abbrev pub AnswersCommand : (skipped number : ℕ) → Command → Machine → Machine → Reply → Type 0
AnswersCommand skipped number command old new reply =
    (machine_after_command old (Ok (command_without_address command)) ≡ new)
    × IsReplyTo number (command_reply (Ok (command_without_address command)) old.now skipped
    (length old.past)
    (length old.future)) reply
