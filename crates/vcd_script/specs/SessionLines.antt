-- Lines of a script that are carried out on a session, as contracts see it: what they make of it,
-- and the replies. The rules are the project's own.
use Rattle.std.specs.Prelude.{◌≡◌, ℕ, ◌+◌, if◌then◌else◌, Bool, List, [], ◌∷◌, length, Result, Ok}
use Rattle.std.specs.Prelude.{is_err}
use Rattle.vcd_core.specs.Contents.{Contents}
use Rattle.vcd_journal.specs.Machine.{Machine, initial_machine, step_outcome}
use Rattle.vcd_script.specs.declared.replies.reply.Reply.{Reply}
use Rattle.vcd_script.specs.declared.script.command.Command.{Command}
use Rattle.vcd_script.specs.declared.script.command.Command.TheVariants as commands
use Rattle.vcd_script.specs.declared.script.line_error.LineError.{LineError}
use Rattle.vcd_script.specs.ScriptCommands.{command_of_line}
use Rattle.vcd_script.specs.Reply.{LineReply, line_reply, reply_text}
use Rattle.vcd_script.specs.Run.{outcome, capture_at}

-- ---- one line

-- the machine after what a line asks for
abbrev pub machine_after_command : Machine → Result Command LineError → Machine
machine_after_command m (Ok (commands.Step step)) = (step_outcome m step).after
machine_after_command m parsed = m

-- the machine after a line, which is read on the current capture
unfoldable pub machine_after_line : Machine → List ℕ → Machine
machine_after_line m line = machine_after_command m (command_of_line m.now line)

-- the reply to a line on a machine
abbrev pub answer_on : (skipped : ℕ) → List ℕ → Machine → LineReply
answer_on skipped line m = line_reply line m.now skipped (length m.past) (length m.future)

-- the same as text, with the number of the line
abbrev pub reply_on : (skipped number : ℕ) → List ℕ → Machine → List ℕ
reply_on skipped number line m = reply_text number (answer_on skipped line m)

-- whether the line is refused
abbrev pub is_refused_on : (skipped : ℕ) → List ℕ → Machine → Bool
is_refused_on skipped line m = is_err (answer_on skipped line m)

-- this is the reply to the line of this number
abbrev pub IsReplyTo : ℕ → LineReply → Reply → Type 0
IsReplyTo number answer reply = (reply.text.items ≡ reply_text number answer)
    × (reply.is_refused ≡ is_err answer)

-- with enough memory the line of this number changes one machine into the other and has this reply
abbrev pub AnswersLine : (skipped number : ℕ) → List ℕ → Machine → Machine → Reply → Type 0
AnswersLine skipped number line old new reply =
    (machine_after_line old line ≡ new)
    × IsReplyTo number (line_reply line old.now skipped (length old.past) (length old.future)) reply

-- ---- lines, one after another

-- the machine after lines
unfoldable pub machine_after_lines : Machine → List (List ℕ) → Machine
machine_after_lines m [] = m
machine_after_lines m (line ∷ lines) = machine_after_lines (machine_after_line m line) lines

-- how many lines are refused
unfoldable pub refusal_count : (skipped : ℕ) → Machine → List (List ℕ) → ℕ
refusal_count skipped m [] = 0
refusal_count skipped m (line ∷ lines) =
    (if is_refused_on skipped line m then 1 else 0)
    + refusal_count skipped (machine_after_line m line) lines

-- the replies to lines, one text for each; the first line has this number
unfoldable pub line_replies : (skipped number : ℕ) → Machine → List (List ℕ) → List (List ℕ)
line_replies skipped number m [] = []
line_replies skipped number m (line ∷ lines) =
    reply_on skipped number line m
    ∷ line_replies skipped (number + 1) (machine_after_line m line) lines

-- on a new session lines have the replies and refusals of a run, and leave its last capture
abbrev pub SessionLinesAreRun : Type 0
SessionLinesAreRun =
    (c : Contents) (skipped depth : ℕ) (lines : List (List ℕ))
    → (line_replies skipped 1 (initial_machine c depth) lines
    ≡ (outcome c skipped depth lines).replies)
    × (refusal_count skipped (initial_machine c depth) lines
    ≡ (outcome c skipped depth lines).refused)
    × ((machine_after_lines (initial_machine c depth) lines).now
    ≡ capture_at c skipped depth lines (length lines))
