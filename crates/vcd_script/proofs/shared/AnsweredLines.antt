-- A session does what the machine does, and its replies to lines are the answers of the machine.
use Rattle.std.proofs.Common.{◌≡◌, ℕ, Bool, true, false, cond, List, [], ◌∷◌, Option, Some, None, Err, length, refl}
use Rattle.std.proofs.Common.{◌≢◌, take, Result, Ok, sym, subst, ◌∙◌, ap}
use Rattle.std.specs.Prelude.{not, nat_lt}
use Rattle.vcd_core.specs.Contents.{Contents}
use Rattle.vcd_edit.specs.declared.edit.Edit.{Edit}
use Rattle.vcd_edit.specs.declared.fault.EditError.{EditError}
use Rattle.vcd_edit.specs.EditFaults.{edit_fault}
use Rattle.vcd_edit.specs.declared.edit.Edit.TheVariants.{Rename}
use Rattle.vcd_edit.specs.Effect.{effect}
use Rattle.vcd_journal.specs.declared.step.Step.{Step}
use Rattle.vcd_journal.specs.declared.step.Step.TheVariants as steps
use Rattle.vcd_journal.specs.declared.step.StepError.TheVariants as refusals
use Rattle.vcd_journal.specs.StepErrorNames.{step_error_name}
use Rattle.vcd_journal.specs.History.{is_depth}
use Rattle.vcd_journal.specs.Machine.{Machine, step_outcome, edit_outcome, undo_outcome, redo_outcome, accepted_outcome}
use Rattle.vcd_journal.specs.Machine.{refused_outcome, machine_after_depth, StepOutcome, memory_refusal, IsStep}
use Rattle.vcd_journal.specs.declared.step.Answer.{Answer}
use Rattle.vcd_journal.specs.declared.step.Answer.TheVariants.{Done}
use Rattle.vcd_journal.proofs.shared.Steps.{outcome_of_step}
use Rattle.vcd_script.specs.Reply.{ok_reply, step_reply, edit_reply, LineReply, line_reply, command_reply}
use Rattle.vcd_script.specs.inside.replies.Answering.{answer_reply, AnswersStep, AnswersCommand}
use Rattle.vcd_script.specs.declared.script.command.Command.{Command}
use Rattle.vcd_script.specs.declared.script.command.Command.TheVariants as commands
use Rattle.vcd_script.specs.declared.script.line_error.LineError.{LineError}
use Rattle.vcd_script.specs.WithoutAddress.{edit_without_address, step_without_address, command_without_address}
use Rattle.vcd_script.specs.SessionLines.{machine_after_line, machine_after_command, AnswersLine, IsReplyTo}
use Rattle.vcd_script.specs.ScriptCommands.{command_of_line}
use Rattle.vcd_script.specs.declared.replies.reply.Reply.{Reply}

-- ==== the reply to a step: it depends on the capture and two counts, and is what the machine answers

reply_to_edit_is : (found : Option EditError) (e : Edit) (m : Machine)
    → edit_reply found ≡ answer_reply (edit_outcome found e m).answer
reply_to_edit_is None e m = refl
reply_to_edit_is (Some refusal) e m = refl

reply_to_undo_is : (past : List Contents) (now : Contents) (redoable : ℕ) (m : Machine)
    → step_reply steps.Undo now (length past) redoable ≡ answer_reply (undo_outcome past m).answer
reply_to_undo_is [] now redoable m = refl
reply_to_undo_is (back ∷ older) now redoable m = refl

reply_to_redo_is : (future : List Contents) (now : Contents) (undoable : ℕ) (m : Machine)
    → step_reply steps.Redo now undoable (length future) ≡ answer_reply (redo_outcome future m).answer
reply_to_redo_is [] now undoable m = refl
reply_to_redo_is (next ∷ later) now undoable m = refl

reply_to_depth_is : (bad small : Bool) (depth : ℕ) (m : Machine) →
    cond bad (Err (step_error_name refusals.BadDepth))
    (cond small (Err (step_error_name refusals.DepthTooSmall)) ok_reply)
    ≡ answer_reply (cond bad (refused_outcome refusals.BadDepth m)
    (cond small (refused_outcome refusals.DepthTooSmall m) (accepted_outcome (machine_after_depth depth m)))).answer
reply_to_depth_is true small depth m = refl
reply_to_depth_is false true depth m = refl
reply_to_depth_is false false depth m = refl

pub reply_is_answer : (m : Machine) (step : Step)
    → step_reply step m.now (length m.past) (length m.future) ≡ answer_reply (step_outcome m step).answer
reply_is_answer m (steps.Edit e) = reply_to_edit_is (edit_fault e m.now) e m
reply_is_answer m steps.Undo = reply_to_undo_is m.past m.now (length m.future) m
reply_is_answer m steps.Redo = reply_to_redo_is m.future m.now (length m.past) m
reply_is_answer m (steps.Depth depth) =
    reply_to_depth_is (not (is_depth depth)) (nat_lt depth (length m.future)) depth m

-- ==== what a session does

-- ---- the address of a word

-- the address matters neither for the effect of an edit nor for its fault
effect_without_address : (e : Edit) (c : Contents) → effect (edit_without_address e) c ≡ effect e c
unfolding effect
effect_without_address (Rename k word) c = refl
effect_without_address e c = refl

pub fault_without_address : (e : Edit) (c : Contents) → edit_fault (edit_without_address e) c ≡ edit_fault e c
unfolding edit_fault
fault_without_address (Rename k word) c = refl
fault_without_address e c = refl

edit_outcome_without_address : (found : Option EditError) (e : Edit) (m : Machine)
    → edit_outcome found (edit_without_address e) m ≡ edit_outcome found e m
edit_outcome_without_address None e m =
    ap (λ (c : Contents). record {
      answer = Done;
      after = record { past = take m.depth (m.now ∷ m.past); now = c; future = []; depth = m.depth };
    })
    (effect_without_address e m.now)
edit_outcome_without_address (Some found) e m = refl

-- nor for the outcome of a step
pub outcome_without_address : (m : Machine) (s : Step) → step_outcome m (step_without_address s) ≡ step_outcome m s
outcome_without_address m (steps.Edit e) =
    ap (λ (found : Option EditError). edit_outcome found (edit_without_address e) m) (fault_without_address e m.now)
    ∙ edit_outcome_without_address (edit_fault e m.now) e m
outcome_without_address m s = refl

-- nor for the reply
reply_without_address : (s : Step) (c : Contents) (undoable redoable : ℕ)
    → step_reply (step_without_address s) c undoable redoable ≡ step_reply s c undoable redoable
reply_without_address (steps.Edit e) c undoable redoable = ap edit_reply (fault_without_address e c)
reply_without_address s c undoable redoable = refl

-- ---- steps

-- the outcome of a step gives the machine after it, and the reply is the answer
answered : (s : Step) (a : Answer) (old new : Machine) → record { answer = a; after = new } ≡ step_outcome old s →
    ((step_outcome old s).after ≡ new) × (step_reply s old.now (length old.past) (length old.future) ≡ answer_reply a)
answered s a old new is = (
  ap (λ (o : StepOutcome). o.after) (sym is),
  reply_is_answer old s ∙ ap (λ (o : StepOutcome). answer_reply o.answer) (sym is),
)

-- an accepted step was not refused because memory ran out
done_not_refused : (s : Step) → Done ≢ memory_refusal s
done_not_refused (steps.Edit e) same = absurd (cc)
done_not_refused s same = absurd (cc)

pub step_accepted : (number : ℕ) (s : Step) (old new : Machine) (reply : Reply) → IsStep old s Done new
    → IsReplyTo number ok_reply reply → AnswersStep number s old new reply
step_accepted number s old new reply made tells =
    let is = answered s Done old new (outcome_of_step old s Done new made (done_not_refused s)) in
    (is.0, subst (λ (r : LineReply). IsReplyTo number r reply) (sym is.1) tells)

-- ---- lines

-- the reply to a line that is read as this
answer_to : (skipped : ℕ) → Machine → Result Command LineError → LineReply
answer_to skipped m parsed = command_reply parsed m.now skipped (length m.past) (length m.future)

-- what a step does and its reply, with its word at any address
pub command_steps : (skipped number : ℕ) (s : Step) (old new : Machine) (reply : Reply)
    → AnswersStep number s old new reply → AnswersCommand skipped number (commands.Step s) old new reply
command_steps skipped number s old new reply answers = (
  ap (λ (o : StepOutcome). o.after) (outcome_without_address old s) ∙ answers.0,
  subst (λ (answer : LineReply). IsReplyTo number answer reply)
      (sym (reply_without_address s old.now (length old.past) (length old.future))) answers.1,
)

-- a line that asks for a command
pub line_asks : (skipped number : ℕ) (line : List ℕ) (command : Command) (old new : Machine) (reply : Reply)
    → command_of_line old.now line ≡ Ok (command_without_address command) →
    AnswersCommand skipped number command old new reply → AnswersLine skipped number line old new reply
unfolding machine_after_line line_reply answer_to
line_asks skipped number line command old new reply read answers = (
  ap (machine_after_command old) read ∙ answers.0,
  subst (λ (answer : LineReply). IsReplyTo number answer reply) (sym (ap (answer_to skipped old) read)) answers.1,
)

-- a line that leaves the machine as it is
pub line_stays : (skipped number : ℕ) (line : List ℕ) (parsed : Result Command LineError) (old : Machine)
    (reply : Reply) → command_of_line old.now line ≡ parsed → machine_after_command old parsed ≡ old →
    IsReplyTo number (command_reply parsed old.now skipped (length old.past) (length old.future)) reply
    → AnswersLine skipped number line old old reply
unfolding machine_after_line line_reply answer_to
line_stays skipped number line parsed old reply read stays tells = (
  ap (machine_after_command old) read ∙ stays,
  subst (λ (answer : LineReply). IsReplyTo number answer reply) (sym (ap (answer_to skipped old) read)) tells,
)
