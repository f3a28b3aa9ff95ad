-- One line among planned lines: what it gives, and how it ends.
use Rattle.std.specs.Prelude.{◌≡◌, ◌==◌, ◌≤◌, ◌+◌, ℕ, Bool, if◌then◌else◌, List, [], ◌∷◌, length}
use Rattle.std.specs.Prelude.{take, Option, Some, None, IfOk}
use Rattle.std.specs.Io.KnownBytes.{Appends}
use Rattle.vcd_core.specs.declared.capture.TheConstants.{SIGNAL_LIMIT}
use Rattle.vcd_core.specs.Contents.{Contents}
use Rattle.vcd_core.specs.Sound.{IsSound}
use Rattle.vcd_hollow.specs.Cuts.{CutsFit}
use Rattle.vcd_hollow.specs.Hollow.{ReadOwn, emptied, hollow}
use Rattle.vcd_journal.specs.History.{History, replay}
use Rattle.vcd_journal.specs.HistoryMachine.{machine_of}
use Rattle.vcd_journal.specs.Machine.{Machine}
use Rattle.vcd_remarks.specs.RemarksOfRun.{line_remarks}
use Rattle.vcd_script.specs.SessionLines.{machine_after_line, reply_on, is_refused_on}
use Rattle.vcd_script.specs.declared.running.run_error.RunError.TheVariants as run_errors
use Rattle.vcd_text.specs.Meaning.{FileMeans}
use Rattle.vcd_amend_run.specs.AmendRunEnds.{counted}
use Rattle.vcd_amend_run.specs.declared.line_pass.PassFault.{PassFault}
use Rattle.vcd_amend_run.specs.declared.line_pass.PassFault.TheVariants as faults
use Rattle.vcd_amend_run.specs.declared.running.AmendRunError.{AmendRunError}
use Rattle.vcd_amend_run.specs.declared.running.AmendRunError.TheVariants as errors
use Rattle.vcd_amend_run.specs.declared.planned_lines.line_taken.LineTaken.{LineTaken}
use Rattle.vcd_amend_run.specs.declared.planned_lines.line_taken.PlannedLine.{PlannedLine}
use Rattle.vcd_amend_run.specs.declared.streamed_line.StreamedLine.{StreamedLine}
use Rattle.vcd_amend_run.specs.inside.StreamedLines.{IsStreamed, IsHeardLine}

-- ---- the plan of a line

-- the line of this number, if it is streamed: then it is the first of those that are left
abbrev pub streamed_here : (number : ℕ) → List StreamedLine → Option StreamedLine
streamed_here number [] = None
streamed_here number (s ∷ streamed) = if s.number == number then Some s else None

-- those that are left after the line of this number
abbrev pub streamed_after : (number : ℕ) → List StreamedLine → List StreamedLine
streamed_after number [] = []
streamed_after number (s ∷ streamed) = if s.number == number then streamed else s ∷ streamed

-- the same for a line
abbrev pub streamed_at : PlannedLine → Option StreamedLine
streamed_at l = streamed_here l.number l.streamed.now

-- the line, which is read after this history, is streamed, or asks for no silent signal
abbrev pub IsPlannedAs : (silent : ℕ → Bool) → Contents → History → List ℕ → Option StreamedLine
    → Type 0
IsPlannedAs silent c h line None = IsHeardLine silent c h line
IsPlannedAs silent c h line (Some s) = IsStreamed c h line s

-- the file means this capture, of whose signals the silent ones are not known; the line, which is
-- read after this history, is planned for that
pub record IsPlannedAt (file : List ℕ) (skipped : ℕ) (c : Contents) (silent : ℕ → Bool)
    (h : History) (line : List ℕ) (here : Option StreamedLine) : Type 0 where
  pub means : FileMeans SIGNAL_LIMIT file c skipped
  pub sound : IsSound (replay c h.edits)
  pub own : ReadOwn (emptied silent) (length c.signals) h.edits
  pub cuts_fit : CutsFit c h.edits
  pub undoable : h.undoable ≤ length h.edits
  pub planned : IsPlannedAs silent c h line here

-- ---- a line

-- the session after a line: a streamed one only decodes
abbrev pub machine_after_planned : Option StreamedLine → Machine → List ℕ → Machine
machine_after_planned None m line = machine_after_line m line
machine_after_planned (Some s) m line = m

-- the remarks on a line that are written before its reply, on this capture
abbrev pub remarks_before : (number : ℕ) → Contents → List ℕ → Option StreamedLine → List ℕ
remarks_before number c line None = line_remarks number c line
remarks_before number c line (Some s) = []

-- those that are written after it
abbrev pub remarks_after : (number : ℕ) → Contents → List ℕ → Option StreamedLine → List ℕ
remarks_after number c line None = []
remarks_after number c line (Some s) = line_remarks number c line

-- the reply to the line of this number on a capture, all of which was taken, and what else the line
-- gave
pub record TakesReply (skipped number : ℕ) (c : Contents) (h : History) (line : List ℕ)
    (here : Option StreamedLine) (before after : Option (List ℕ)) (taken : LineTaken) : Type 0 where
  pub text : Appends before after (reply_on skipped number line (machine_of c h))
  pub count : taken.written ≡ counted (length (reply_on skipped number line (machine_of c h)))
  pub refused : taken.is_refused ≡ is_refused_on skipped line (machine_of c h)
  pub remarks : IfOk taken.remarks (λ text. text.items
      ≡ remarks_after number (replay c h.edits) line here)

-- a line on a session, and the file that is opened once more, if it shows its bytes
module _ (shown : Option (List ℕ)) (l : PlannedLine) (old : Machine) where
  -- a planned line on a session without silent changes has its reply on the whole capture
  abbrev pub AnswersPlanned : (before after : Option (List ℕ)) → LineTaken → Type 0
  AnswersPlanned before after taken =
      (file : List ℕ) (c : Contents) (silent : ℕ → Bool) (h : History) → shown ≡ Some file
      → IsPlannedAt file l.skipped c silent h l.text.now (streamed_at l)
      → old ≡ machine_of (hollow silent c) h
      → TakesReply l.skipped l.number c h l.text.now (streamed_at l) before after taken

  -- of this reply so many bytes were taken
  abbrev pub StopsAtPlanned : (before after : Option (List ℕ)) → (count : ℕ) → Type 0
  StopsAtPlanned before after count =
      (file : List ℕ) (c : Contents) (silent : ℕ → Bool) (h : History) → shown ≡ Some file
      → IsPlannedAt file l.skipped c silent h l.text.now (streamed_at l)
      → old ≡ machine_of (hollow silent c) h
      → (count ≤ length (reply_on l.skipped l.number l.text.now (machine_of c h)))
      × Appends before after (take count (reply_on l.skipped l.number l.text.now (machine_of c h)))

-- a line that is not streamed has its reply on the session
abbrev pub AnswersPlain : PlannedLine → (old new : Machine) → (before after : Option (List ℕ))
    → LineTaken → Type 0
AnswersPlain l old new before after taken = (new ≡ machine_after_line old l.text.now)
    × Appends before after (reply_on l.skipped l.number l.text.now old)
    × (taken.written ≡ counted (length (reply_on l.skipped l.number l.text.now old)))
    × (taken.is_refused ≡ is_refused_on l.skipped l.text.now old)
    × IfOk taken.remarks (λ text. text.items ≡ [])

-- of this reply so many bytes were taken
abbrev pub StopsAtPlain : PlannedLine → (old : Machine) → (before after : Option (List ℕ))
    → (count : ℕ) → Type 0
StopsAtPlain l old before after count =
    (count ≤ length (reply_on l.skipped l.number l.text.now old))
    × Appends before after (take count (reply_on l.skipped l.number l.text.now old))

-- a streamed line, and this capture of its session, which lacks silent changes
module _ (shown : Option (List ℕ)) (l : PlannedLine) (now : Contents) where
  -- it has its reply on the whole capture
  abbrev pub AnswersStreamed : (before after : Option (List ℕ)) → LineTaken → Type 0
  AnswersStreamed before after taken =
      (file : List ℕ) (c : Contents) (silent : ℕ → Bool) (h : History) → shown ≡ Some file
      → IsPlannedAt file l.skipped c silent h l.text.now (streamed_at l)
      → now ≡ replay (hollow silent c) h.edits
      → TakesReply l.skipped l.number c h l.text.now (streamed_at l) before after taken

  -- of this reply so many bytes were taken
  abbrev pub StopsAtStreamed : (before after : Option (List ℕ)) → (count : ℕ) → Type 0
  StopsAtStreamed before after count =
      (file : List ℕ) (c : Contents) (silent : ℕ → Bool) (h : History) → shown ≡ Some file
      → IsPlannedAt file l.skipped c silent h l.text.now (streamed_at l)
      → now ≡ replay (hollow silent c) h.edits
      → (count ≤ length (reply_on l.skipped l.number l.text.now (machine_of c h)))
      × Appends before after (take count (reply_on l.skipped l.number l.text.now (machine_of c h)))

-- the error that ends a run at the line of this number, after so many bytes of the replies to those
-- before
abbrev pub error_at_line : (number written_before : ℕ) → PassFault → AmendRunError
error_at_line number written_before (faults.Read e) = errors.Run (run_errors.Capture e)
error_at_line number written_before faults.NoMemory = errors.Run (run_errors.NoMemory number)
error_at_line number written_before (faults.Reply written) =
    errors.Run (run_errors.ReplyFault (counted (written_before + written)))
