-- A run of planned lines, on a session that lacks the changes of silent signals.
use Rattle.std.specs.Prelude.{◌≡◌, ◌-◌, ◌≤◌, ℕ, Bool, true, List, length, take, Option, Some}
use Rattle.std.specs.List.{concat}
use Rattle.std.specs.Io.KnownBytes.{Appends}
use Rattle.vcd_core.specs.declared.capture.TheConstants.{SIGNAL_LIMIT}
use Rattle.vcd_core.specs.Contents.{Contents}
use Rattle.vcd_journal.specs.History.{initial_history}
use Rattle.vcd_journal.specs.Machine.{Machine, initial_machine}
use Rattle.vcd_hollow.specs.Hollow.{hollow}
use Rattle.vcd_script.specs.declared.running.run_error.RunError.TheVariants as run_errors
use Rattle.vcd_script.specs.LineRunEnds.{RunsLines}
use Rattle.vcd_script.specs.SessionLines.{machine_after_lines, line_replies}
use Rattle.vcd_text.specs.Meaning.{FileMeans}
use Rattle.vcd_text.specs.declared.fault.ReadError.{ReadError}
use Rattle.vcd_amend_run.specs.AmendRunEnds.{counted}
use Rattle.vcd_amend_run.specs.declared.running.AmendRunError.{AmendRunError}
use Rattle.vcd_amend_run.specs.declared.running.AmendRunError.TheVariants as errors
use Rattle.vcd_amend_run.specs.declared.streamed_line.StreamedLine.{StreamedLine}
use Rattle.vcd_amend_run.specs.inside.StreamedLines.{ArePlanned}

-- the file means this capture; the session holds what is not silent of it, and the lines are
-- planned for that
pub record IsPlannedOn (file : List ℕ) (skipped depth : ℕ) (lines : List (List ℕ))
    (streamed : List StreamedLine) (session : Machine) (c : Contents) (silent : ℕ → Bool)
    : Type 0 where
  pub means : FileMeans SIGNAL_LIMIT file c skipped
  pub session_is : session ≡ initial_machine (hollow silent c) depth
  pub planned : ArePlanned c skipped silent 1 (initial_history depth) lines streamed

-- for a session on such a capture: all replies of the run on the whole capture are written, and the
-- session is that of the run on what is not silent
abbrev pub RunsPlannedLines : (shown : Option (List ℕ)) → (skipped : ℕ) → List (List ℕ)
    → List StreamedLine → (old new : Machine) → (refused : ℕ) → (before after : Option (List ℕ))
    → Type 0
RunsPlannedLines shown skipped lines streamed old new refused before after =
    (file : List ℕ) (depth : ℕ) (c : Contents) (silent : ℕ → Bool) → shown ≡ Some file
    → IsPlannedOn file skipped depth lines streamed old c silent
    → RunsLines skipped lines (initial_machine c depth)
    (machine_after_lines (initial_machine c depth) lines) refused before after
    × (new ≡ machine_after_lines (initial_machine (hollow silent c) depth) lines)

-- these replies were written in part: so many bytes
abbrev pub TookReplies : (replies : List (List ℕ)) → (before after : Option (List ℕ))
    → (count : ℕ) → Type 0
TookReplies replies before after count =
    (count ≤ length (concat replies)) × Appends before after (take count (concat replies))

-- the fault that ended the writing of these replies: memory ran out at a line, after the replies to
-- the lines before and perhaps a part of its own; or the writer failed, or the file could not be
-- read once more
abbrev pub StopsInPlanned : (read_fails : ReadError → Type 0) → (replies : List (List ℕ))
    → (before after : Option (List ℕ)) → AmendRunError → Type 0
StopsInPlanned read_fails replies before after (errors.Run (run_errors.NoMemory line)) =
    (1 ≤ line) × (line ≤ length replies) × (count : ℕ)
    × (length (concat (take (line - 1) replies)) ≤ count)
    × (count ≤ length (concat (take line replies))) × TookReplies replies before after count
StopsInPlanned read_fails replies before after (errors.Run (run_errors.ReplyFault written)) =
    (count : ℕ) × (written ≡ counted count) × TookReplies replies before after count
StopsInPlanned read_fails replies before after (errors.Run (run_errors.Capture e)) =
    read_fails e × (count : ℕ) × TookReplies replies before after count
StopsInPlanned read_fails replies before after e = ⊥

-- the same for planned lines on such a session; the file that is read once more has these bytes
abbrev pub StopsInLinesPlanned : (read_fails : ReadError → Type 0) → (shown : Option (List ℕ))
    → (skipped : ℕ) → List (List ℕ) → List StreamedLine → (old : Machine)
    → (before after : Option (List ℕ)) → AmendRunError → Type 0
StopsInLinesPlanned read_fails shown skipped lines streamed old before after e =
    (file : List ℕ) (depth : ℕ) (c : Contents) (silent : ℕ → Bool) → shown ≡ Some file
    → IsPlannedOn file skipped depth lines streamed old c silent
    → StopsInPlanned read_fails (line_replies skipped 1 (initial_machine c depth) lines) before
    after e

-- whatever the file: a fault is one of these, with what is then known of the devices
abbrev pub EndsInPlanned : (read_fails : ReadError → Type 0) → (replies_failed : Bool)
    → AmendRunError → Type 0
EndsInPlanned read_fails replies_failed (errors.Run (run_errors.NoMemory line)) =
    1 ≤ line
EndsInPlanned read_fails replies_failed (errors.Run (run_errors.ReplyFault written)) =
    replies_failed ≡ true
EndsInPlanned read_fails replies_failed (errors.Run (run_errors.Capture e)) = read_fails e
EndsInPlanned read_fails replies_failed e = ⊥
