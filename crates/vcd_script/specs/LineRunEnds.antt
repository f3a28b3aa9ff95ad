-- How a run of lines ends on a session and on the writer of the replies. The rules are the
-- project's own.
use Rattle.std.specs.Prelude.{◌≡◌, ◌≤◌, ℕ, ◌-◌, Bool, true, false, List, length, take, Option}
use Rattle.std.specs.List.{concat}
use Rattle.std.specs.Io.KnownBytes.{Appends}
use Rattle.vcd_journal.specs.Machine.{Machine}
use Rattle.vcd_script.specs.declared.running.run_error.RunError.{RunError}
use Rattle.vcd_script.specs.declared.running.run_error.RunError.TheVariants as run_errors
use Rattle.vcd_script.specs.SessionLines.{line_replies, machine_after_lines, refusal_count}

-- the lines change one machine into the other; these are their replies, and `count` are refused
pub record LinesGive (skipped : ℕ) (lines : List (List ℕ)) (old new : Machine)
    (texts : List (List ℕ)) (count : ℕ)
    : Type 0 where
  pub after : machine_after_lines old lines ≡ new
  pub replies : line_replies skipped 1 old lines ≡ texts
  pub refused : refusal_count skipped old lines ≡ count

-- all lines are run, and their replies written
abbrev pub RunsLines : (skipped : ℕ) → List (List ℕ) → Machine → Machine → (refused : ℕ)
    → (before after : Option (List ℕ)) → Type 0
RunsLines skipped lines old new refused before after = (texts : List (List ℕ))
    × Appends before after (concat texts)
    × LinesGive skipped lines old new texts refused

-- ---- faults

-- at this fault the writer of the replies has failed; if memory ran out, it was flushed, or has
-- failed in that
abbrev pub HasFailedAt : (has_failed is_flushed : Bool) → RunError → Type 0
HasFailedAt has_failed is_flushed (run_errors.ReplyFault written) = has_failed ≡ true
HasFailedAt has_failed is_flushed (run_errors.NoMemory line) = has_failed ≡ false
    → is_flushed ≡ true
HasFailedAt has_failed is_flushed _ = Unit {0}

-- the fault ends the run at one of its lines, or at the writer of the replies
abbrev pub EndsAtLine : RunError → Type 0
EndsAtLine (run_errors.NoMemory line) = 1 ≤ line
EndsAtLine (run_errors.ReplyFault written) = Unit {0}
EndsAtLine (run_errors.Capture e) = ⊥
EndsAtLine run_errors.ScriptTooLarge = ⊥
EndsAtLine run_errors.ScriptReadFault = ⊥
EndsAtLine (run_errors.Write e) = ⊥

-- the fault ended the writing of these replies: it gives the line at which memory ran out, or how
-- many bytes of them were taken
abbrev pub StopsInReplies : (replies : List (List ℕ)) → (took : List ℕ → Type 0) → RunError → Type 0
StopsInReplies replies took (run_errors.NoMemory line) = (1 ≤ line) × (line ≤ length replies)
    × took (concat (take (line - 1) replies))
StopsInReplies replies took (run_errors.ReplyFault written) = (written ≤ length (concat replies))
    × took (take written (concat replies))
StopsInReplies replies took _ = ⊥

-- the same for the replies to lines, from this machine on
abbrev pub StopsInLines : (skipped : ℕ) → List (List ℕ) → Machine → (before after : Option (List ℕ))
    → RunError → Type 0
StopsInLines skipped lines old before after e =
    StopsInReplies (line_replies skipped 1 old lines) (Appends before after) e
