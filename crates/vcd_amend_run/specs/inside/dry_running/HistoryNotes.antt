-- What a dry run remembers of the edits.
use Rattle.std.specs.Prelude.{ℕ, List, Result}
use Rattle.vcd_script.specs.declared.script.command.Command.{Command}
use Rattle.vcd_script.specs.declared.script.line_error.LineError.{LineError}
use Rattle.vcd_amend_run.specs.EditsInForce.{EditLines, no_lines, lines_after_command}
use Rattle.vcd_amend_run.specs.inside.dry_running.OriginHistory.{OriginNotes, notes_after_command}
use Rattle.vcd_amend_run.specs.inside.dry_running.OriginHistory.{notes_before_edits}

-- the notes of the edits, and their lines
pub record HistoryNotes : Type 0 where
  pub notes : OriginNotes
  pub lines : EditLines

-- before the first line, on a capture with so many signals
abbrev pub noted_before_lines : (count : ℕ) → HistoryNotes
noted_before_lines count = record { notes = notes_before_edits count; lines = no_lines }

-- after a line that asks for this and is not refused
abbrev pub noted_after_command : HistoryNotes → (line : List ℕ) → Result Command LineError
    → HistoryNotes
noted_after_command n line asked = record {
  notes = notes_after_command n.notes asked;
  lines = lines_after_command n.lines line asked;
}
