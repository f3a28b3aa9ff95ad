-- What amending the bytes of a file by a script gives: the second headline, without devices. The
-- project's own.
use Rattle.std.specs.Prelude.{◌≡◌, ◌<◌, ◌≤◌, ◌⊎◌, ℕ, zero, suc, List, [], length, take}
use Rattle.std.specs.Prelude.{Result, Ok, Err}
use Rattle.std.specs.List.{concat}
use Rattle.vcd_core.specs.declared.capture.TheConstants.{SIGNAL_LIMIT}
use Rattle.vcd_core.specs.Contents.{Contents}
use Rattle.vcd_text.specs.Words.{words_of}
use Rattle.vcd_text.specs.Grammar.{ParseState, Accepts}
use Rattle.vcd_text.specs.Meaning.{FileMeans}
use Rattle.vcd_text.specs.Faults.{IsFileFault, IsPrefixAnswer}
use Rattle.vcd_copy.specs.Pieces.{Piece, IsCut, state_of_pieces}
use Rattle.vcd_text.specs.declared.fault.Fault.TheVariants as faults
use Rattle.vcd_text.specs.declared.fault.ReadError.{ReadError}
use Rattle.vcd_text.specs.declared.reading.TheConstants.{LONG_FILE_LIMIT}
use Rattle.vcd_hollow.specs.Cuts.{cuts}
use Rattle.vcd_script.specs.declared.running.script_input.TheConstants.{SCRIPT_LIMIT}
use Rattle.vcd_script.specs.declared.running.run_error.RunError.TheVariants as run_errors
use Rattle.vcd_script.specs.declared.running.run_on_bytes.RunTexts.{RunTexts}
use Rattle.vcd_script.specs.Script.{script_lines}
use Rattle.vcd_script.specs.Run.{RunOutcome, IsRun}
use Rattle.vcd_hollow.specs.HollowRun.{last_edits, last_capture}
use Rattle.vcd_amend_run.specs.declared.running.AmendRunError.{AmendRunError}
use Rattle.vcd_amend_run.specs.declared.running.AmendRunError.TheVariants.{Run, NameOfSkipped}
use Rattle.vcd_amend_run.specs.declared.on_bytes.AmendRefusal.{AmendRefusal}
use Rattle.vcd_amend.specs.WhatStands.{ItemsStand}
use Rattle.vcd_amend.specs.RetimedLaws.{AreRetimed}
use Rattle.vcd_amend_run.specs.EditedText.{is_cut_out_by, remaining_of_run}
use Rattle.vcd_amend_run.specs.AmendRunEnds.{TakesSkippedName, counted}

-- ---- the file after a run

-- the text is a file after lines on the capture that it means: read again, it means the last
-- capture, with as many variables skipped; what is not touched of the file stands after the cuts in
-- force, and of that again after the other edits
pub record IsEditedFile (file : List ℕ) (c : Contents) (skipped depth : ℕ) (lines : List (List ℕ))
    (text : List ℕ) : Type 0 where
  pub read_again : FileMeans SIGNAL_LIMIT text (last_capture c skipped depth lines) skipped
  pub pieces : List Piece
  pub tail : List ℕ
  pub cut : IsCut file pieces tail
  pub after : List Piece
  pub retimed : AreRetimed (is_cut_out_by (last_edits c skipped depth lines))
      (state_of_pieces SIGNAL_LIMIT pieces) pieces after
  pub uncut : cuts (last_edits c skipped depth lines) ≡ [] → after ≡ pieces
  pub stands : ItemsStand SIGNAL_LIMIT (remaining_of_run c skipped depth lines)
      (last_capture c skipped depth lines).signals after tail text

-- ---- the headline

-- why a file of any length that is allowed here is refused: for its fault, or its length
pub data IsRefusedLongFile (file : List ℕ) (e : ReadError) : Type 0 where
  has_fault : length file ≤ LONG_FILE_LIMIT → IsFileFault SIGNAL_LIMIT file e.line e.fault
      → IsRefusedLongFile file e
  too_large : LONG_FILE_LIMIT < length file
      → IsPrefixAnswer SIGNAL_LIMIT (take LONG_FILE_LIMIT file) faults.TooLarge e
      → IsRefusedLongFile file e

-- the bytes of a file are not amended for this error, and these are the replies before it
abbrev pub AmendFails : (file script : List ℕ) → (depth : ℕ) → (replies : List ℕ) → AmendRunError
    → Type 0
-- the file is refused for this, or memory ran out as it was read: before any reply, for a line
-- after the first bytes of the replies, or for the copy
AmendFails file script depth replies (Run (run_errors.Capture e)) =
    (IsRefusedLongFile file e ⊎ (e ≡ record { line = 0; fault = faults.NoMemory }))
    × ((replies ≡ []) ⊎ ((written : RunOutcome) × IsRun file script depth written × (count : ℕ)
    × (replies ≡ take count (concat written.replies))))
AmendFails file script depth replies (Run run_errors.ScriptTooLarge) =
    (SCRIPT_LIMIT < length script) × (replies ≡ [])
-- memory ran out before the first line, or at a line, counted from 1: of the reply to this one
-- there may be the first bytes
AmendFails file script depth replies (Run (run_errors.NoMemory zero)) = replies ≡ []
AmendFails file script depth replies (Run (run_errors.NoMemory (suc before))) =
    (written : RunOutcome) × IsRun file script depth written × (before < length written.replies)
    × (count : ℕ) × (length (concat (take before written.replies)) ≤ count)
    × (count ≤ length (concat (take (suc before) written.replies)))
    × (replies ≡ take count (concat written.replies))
-- memory ran out for the replies, after so many bytes of them
AmendFails file script depth replies (Run (run_errors.ReplyFault bytes)) =
    (written : RunOutcome) × IsRun file script depth written × (count : ℕ)
    × (bytes ≡ counted count) × (replies ≡ take count (concat written.replies))
-- memory ran out for the file: all replies are given
AmendFails file script depth replies (Run (run_errors.Write e)) =
    (written : RunOutcome) × IsRun file script depth written × (replies ≡ concat written.replies)
-- what the script leaves can't be written
AmendFails file script depth replies NameOfSkipped = (replies ≡ [])
    × (s : ParseState) × Accepts SIGNAL_LIMIT (words_of file) s
    × TakesSkippedName depth (script_lines script) s
-- no other error comes
AmendFails file script depth replies error = ⊥

-- what amending the bytes of a file by a script gives: the replies of the script's run on what the
-- file means, and the file after it
abbrev pub AmendGives : (file script : List ℕ) → (depth : ℕ) → Result RunTexts AmendRefusal
    → Type 0
AmendGives file script depth (Ok texts) = (length file ≤ LONG_FILE_LIMIT) × (written : RunOutcome)
    × (ran : IsRun file script depth written)
    × (texts.replies.items ≡ concat written.replies) × (texts.refused ≡ written.refused)
    × IsEditedFile file ran.contents ran.skipped depth (script_lines script) texts.output.items
    × (s : ParseState) × Accepts SIGNAL_LIMIT (words_of file) s
    × (TakesSkippedName depth (script_lines script) s → ⊥)
AmendGives file script depth (Err refused) =
    AmendFails file script depth refused.replies.items refused.error
