-- The remarks on the lines of a run. The project's own.
use Rattle.std.specs.Prelude.{◌≡◌, ℕ, ◌+◌, Bool, List, [], ◌++◌, length, Result, Ok, Err}
use Rattle.std.specs.List.{enumerate_from, flat_map}
use Rattle.vcd_core.specs.Contents.{Contents}
use Rattle.vcd_hollow.specs.OtherWaves.{with_others, HaveOwn, OtherChanges}
use Rattle.vcd_hollow.specs.Hollow.{emptied, hollow, ReadOwn}
use Rattle.vcd_journal.specs.History.{History, replay}
use Rattle.vcd_script.specs.declared.script.command.Command.{Command}
use Rattle.vcd_script.specs.declared.script.line_error.LineError.{LineError}
use Rattle.vcd_script.specs.ScriptCommands.{command_of_line}
use Rattle.vcd_script.specs.Run.{capture_at}
use Rattle.vcd_hollow.specs.HollowRun.{waves_of_command, origins_of_line, AreHeard}
use Rattle.vcd_remarks.specs.NameRemarks.{name_remarks}
use Rattle.vcd_remarks.specs.Remarks.{remarks, remarks_text}

-- the remarks on a line, by what it asks for: on its names, and then on the command; on a line that
-- is no command there are none
abbrev pub remarks_asked : Contents → (line : List ℕ) → Result Command LineError → List (List ℕ)
remarks_asked c line (Ok command) = name_remarks c line command ++ remarks c command
remarks_asked c line (Err found) = []

-- the text of the remarks on the line of this number, which is read on this capture
abbrev pub line_remarks : (number : ℕ) → Contents → List ℕ → List ℕ
line_remarks number c line = remarks_text number (remarks_asked c line (command_of_line c line))

-- the text of the remarks on lines, which are numbered from 1 on: each is read on the capture after
-- the lines before it, from an empty history of this depth on
abbrev pub remarks_of_run : Contents → (skipped depth : ℕ) → (lines : List (List ℕ)) → List ℕ
remarks_of_run c skipped depth lines =
    flat_map (λ p. line_remarks (p.0 + 1) (capture_at c skipped depth lines p.0) p.1)
    (enumerate_from 0 lines)

-- ---- the laws

-- the remarks on a command, if the signals whose changes it asks for have their own
abbrev pub RemarksWithOthers : Type 0
RemarksWithOthers =
    (others : List OtherChanges) (c : Contents) (command : Command)
    → HaveOwn others (waves_of_command command)
    → remarks (with_others others c) command ≡ remarks c command

-- a line that asks for the changes of no silent signal has the same remarks on the capture without
-- these changes, after edits that read none of them
abbrev pub RemarksOnHollow : Type 0
RemarksOnHollow =
    (silent : ℕ → Bool) (c : Contents) (h : History) (number : ℕ) (line : List ℕ)
    → ReadOwn (emptied silent) (length c.signals) h.edits
    → AreHeard silent (origins_of_line c h line)
    → line_remarks number (replay (hollow silent c) h.edits) line
    ≡ line_remarks number (replay c h.edits) line
