-- The lines of a script that made the edits in force after the last one. The project's own.
use Rattle.std.specs.Prelude.{◌≡◌, ℕ, if◌then◌else◌, List, [], ◌∷◌, ◌++◌, take, drop, reverse}
use Rattle.std.specs.Prelude.{Result, Ok, is_err}
use Rattle.vcd_core.specs.Contents.{Contents}
use Rattle.vcd_edit.specs.declared.edit.Edit.{Edit}
use Rattle.vcd_journal.specs.declared.step.Step.{Step}
use Rattle.vcd_journal.specs.declared.step.Step.TheVariants as steps
use Rattle.vcd_journal.specs.History.{History, initial_history, replay}
use Rattle.vcd_script.specs.declared.script.command.Command.{Command}
use Rattle.vcd_script.specs.declared.script.command.Command.TheVariants as commands
use Rattle.vcd_script.specs.declared.script.line_error.LineError.{LineError}
use Rattle.vcd_script.specs.ScriptCommands.{command_of_line}
use Rattle.vcd_script.specs.Run.{line_answer, history_after_line}
use Rattle.vcd_hollow.specs.HollowRun.{last_edits}

-- the lines that made the edits in force, the last one made first; and those whose edits are undone
-- and not made again, the one undone last first
pub record EditLines : Type 0 where
  pub in_force : List (List ℕ)
  pub undone : List (List ℕ)

-- before the first line
abbrev pub no_lines : EditLines
no_lines = record { in_force = []; undone = [] }

-- after a line that made an edit
abbrev pub lines_after_edit : EditLines → (line : List ℕ) → EditLines
lines_after_edit l line = record { in_force = line ∷ l.in_force; undone = [] }

-- after a line that asks for a step and is not refused
abbrev pub lines_after_step : EditLines → (line : List ℕ) → Step → EditLines
lines_after_step l line (steps.Edit e) = lines_after_edit l line
lines_after_step l line steps.Undo =
    record { in_force = drop 1 l.in_force; undone = take 1 l.in_force ++ l.undone }
lines_after_step l line steps.Redo =
    record { in_force = take 1 l.undone ++ l.in_force; undone = drop 1 l.undone }
lines_after_step l line (steps.Depth depth) = l

-- after a line that asks for this and is not refused
abbrev pub lines_after_command : EditLines → (line : List ℕ) → Result Command LineError → EditLines
lines_after_command l line (Ok (commands.Step s)) = lines_after_step l line s
lines_after_command l line parsed = l

-- lines on a capture `c`, of whose file `skipped` variables were skipped
module _ (c : Contents) (skipped : ℕ) where
  -- after a line: a refused one made no edit
  abbrev pub lines_after_line : History → EditLines → (line : List ℕ) → EditLines
  lines_after_line h l line = if is_err (line_answer c skipped h line) then l
      else lines_after_command l line (command_of_line (replay c h.edits) line)

  -- after lines, the first of them after this history
  unfoldable pub lines_after : History → EditLines → List (List ℕ) → EditLines
  lines_after h l [] = l
  lines_after h l (line ∷ lines) =
      lines_after (history_after_line c skipped h line) (lines_after_line h l line) lines

-- the lines that made the edits in force after the last line, in their order
abbrev pub lines_in_force : Contents → (skipped depth : ℕ) → List (List ℕ) → List (List ℕ)
lines_in_force c skipped depth lines =
    reverse (lines_after c skipped (initial_history depth) no_lines lines).in_force

-- ---- the law

-- each line asks for the edit at its place, on the capture after the edits before it; both lists
-- have the last one first
unfoldable pub AskForEdits : Contents → (lines : List (List ℕ)) → List Edit → Type 0
AskForEdits c [] [] = Unit {0}
AskForEdits c (line ∷ lines) (e ∷ es) =
    (command_of_line (replay c es) line ≡ Ok (commands.Step (steps.Edit e)))
    × AskForEdits c lines es
AskForEdits c lines es = ⊥

-- the lines in force ask, in their order, for the edits in force
abbrev pub LinesInForceAskForEdits : Type 0
LinesInForceAskForEdits =
    (c : Contents) (skipped depth : ℕ) (lines : List (List ℕ))
    → AskForEdits c (reverse (lines_in_force c skipped depth lines))
    (last_edits c skipped depth lines)
