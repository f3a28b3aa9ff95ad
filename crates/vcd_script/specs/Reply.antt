-- The reply to a line of a script: the project's own.
use Rattle.std.specs.Prelude.{ℕ, zero, not, nat_lt, if◌then◌else◌, List, [], ◌∷◌, Option, Some}
use Rattle.std.specs.Prelude.{None}
use Rattle.std.specs.Prelude.{Result, Ok, Err, codes, map, ◌++◌}
use Rattle.std.specs.List.{flat_map}
use Rattle.std.specs.Fmt.{decimal}
use Rattle.vcd_core.specs.Contents.{Contents, signal_at, signal_value}
use Rattle.vcd_text.specs.Letters.{printed_letters}
use Rattle.vcd_edit.specs.declared.fault.EditError.{EditError}
use Rattle.vcd_journal.specs.declared.step.Step.{Step}
use Rattle.vcd_journal.specs.declared.step.Step.TheVariants as steps
use Rattle.vcd_journal.specs.declared.step.StepError.{StepError}
use Rattle.vcd_journal.specs.declared.step.StepError.TheVariants as refusals
use Rattle.vcd_script.specs.declared.script.command.Command.{Command}
use Rattle.vcd_script.specs.declared.script.command.Command.TheVariants as commands
use Rattle.vcd_script.specs.declared.script.line_error.LineError.{LineError}
use Rattle.vcd_journal.specs.StepErrorNames.{step_error_name}
use Rattle.vcd_journal.specs.History.{is_depth}
use Rattle.vcd_script.specs.LineErrorNames.{line_error_name}
use Rattle.vcd_edit.specs.EditFaults.{edit_fault}
use Rattle.vcd_script.specs.DecoderReply.{uart_lines, spi_lines, i2c_lines}
use Rattle.vcd_script.specs.ScriptCommands.{command_of_line}
use Rattle.vcd_script.specs.Queries.{listing, change_line}

-- the lines of a reply, or the name of the refusal
abbrev pub LineReply : Type 0
LineReply = Result (List (List ℕ)) (List ℕ)

-- the reply to an accepted step
abbrev pub ok_reply : LineReply
ok_reply = Ok (codes "ok" ∷ [])

-- the reply to an edit that has this fault, or none
abbrev pub edit_reply : Option EditError → LineReply
edit_reply None = ok_reply
edit_reply (Some found) = Err (step_error_name (refusals.Edit found))

-- the reply to an undo or a redo, given how many edits it can take: if none, a refusal
abbrev pub history_reply : ℕ → StepError → LineReply
history_reply zero refusal = Err (step_error_name refusal)
history_reply count refusal = ok_reply

-- the reply to a step on a capture, given how many edits can be undone and redone
abbrev pub step_reply : Step → Contents → (undoable redoable : ℕ) → LineReply
step_reply (steps.Edit e) c undoable redoable = edit_reply (edit_fault e c)
step_reply steps.Undo c undoable redoable = history_reply undoable refusals.NothingToUndo
step_reply steps.Redo c undoable redoable = history_reply redoable refusals.NothingToRedo
step_reply (steps.Depth depth) c undoable redoable =
    if not (is_depth depth) then Err (step_error_name refusals.BadDepth)
    else (if nat_lt depth redoable then Err (step_error_name refusals.DepthTooSmall)
    else ok_reply)

-- the reply to a line, by what it asks for, or why it is no command
abbrev pub command_reply : Result Command LineError → Contents → (skipped undoable redoable : ℕ)
    → LineReply
command_reply (Err found) c skipped undoable redoable = Err (line_error_name found)
command_reply (Ok commands.Nothing) c skipped undoable redoable = Ok []
command_reply (Ok (commands.Step step)) c skipped undoable redoable =
    step_reply step c undoable redoable
command_reply (Ok commands.List) c skipped undoable redoable = Ok (listing c skipped)
command_reply (Ok (commands.Value k tick)) c skipped undoable redoable =
    Ok (printed_letters (signal_value (signal_at c k) tick) ∷ [])
command_reply (Ok (commands.Changes k)) c skipped undoable redoable =
    Ok (map change_line (signal_at c k).changes)
command_reply (Ok (commands.Uart k setup)) c skipped undoable redoable = Ok (uart_lines c k setup)
command_reply (Ok (commands.Spi clk mosi miso cs setup)) c skipped undoable redoable =
    Ok (spi_lines c clk mosi miso cs setup)
command_reply (Ok (commands.I2c scl sda)) c skipped undoable redoable = Ok (i2c_lines c scl sda)

-- the reply to a line on a capture; `skipped` variables of its file were skipped
unfoldable pub line_reply : List ℕ → Contents → (skipped undoable redoable : ℕ) → LineReply
line_reply line c skipped undoable redoable =
    command_reply (command_of_line c line) c skipped undoable redoable

-- the text of a reply to the line of this number; each of its lines ends with a line feed (10)
abbrev pub reply_text : ℕ → LineReply → List ℕ
reply_text number (Ok lines) = flat_map (λ line. line ++ 10 ∷ []) lines
reply_text number (Err name) =
    codes "line " ++ decimal number ++ codes ": refused: " ++ name ++ 10 ∷ []
