-- The remarks on lines that are carried out on a session. The project's own.
use Rattle.std.specs.Prelude.{◌≡◌, ℕ, ◌+◌, List, [], ◌∷◌, ◌++◌}
use Rattle.vcd_core.specs.Contents.{Contents}
use Rattle.vcd_journal.specs.Machine.{Machine, initial_machine}
use Rattle.vcd_script.specs.SessionLines.{machine_after_line}
use Rattle.vcd_remarks.specs.RemarksOfRun.{line_remarks, remarks_of_run}

-- the text of the remarks on lines, each on the capture before it; the first line has this number
unfoldable pub session_remarks : (number : ℕ) → Machine → List (List ℕ) → List ℕ
session_remarks number m [] = []
session_remarks number m (line ∷ lines) =
    line_remarks number m.now line
    ++ session_remarks (number + 1) (machine_after_line m line) lines

-- on a new session these are the remarks on the lines of a run
abbrev pub SessionRemarksAreRun : Type 0
SessionRemarksAreRun =
    (c : Contents) (skipped depth : ℕ) (lines : List (List ℕ))
    → session_remarks 1 (initial_machine c depth) lines ≡ remarks_of_run c skipped depth lines
