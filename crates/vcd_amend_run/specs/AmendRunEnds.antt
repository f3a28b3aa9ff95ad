-- How amending a file by a script ends on any devices, by its result. The project's own.
use Rattle.std.specs.Prelude.{◌≡◌, ◌<◌, ◌⊎◌, ℕ, zero, suc, Bool, true, false, List, length}
use Rattle.std.specs.Prelude.{take, count_by, ◌≤◌, ◌-◌, ◌^◌, min, is_some}
use Rattle.std.specs.Prelude.{Option, Some, Result, Ok, Err, IfSome}
use Rattle.std.specs.List.{concat}
use Rattle.vcd_core.specs.declared.capture.TheConstants.{SIGNAL_LIMIT}
use Rattle.vcd_core.specs.Contents.{Contents}
use Rattle.vcd_core.specs.Devices.{DeviceEnd, device_end, HasPrefix, HasText, IsUntouched}
use Rattle.vcd_text.specs.Words.{words_of}
use Rattle.vcd_text.specs.Grammar.{ParseState, Accepts, is_skipped}
use Rattle.vcd_text.specs.Meaning.{meaning}
use Rattle.vcd_copy.specs.CopyEnds.{ReadFails}
use Rattle.vcd_text.specs.declared.fault.ReadError.{ReadError}
use Rattle.vcd_text.specs.declared.reading.TheConstants.{LONG_FILE_LIMIT}
use Rattle.vcd_hollow.specs.Origins.{origins}
use Rattle.vcd_script.specs.declared.running.script_input.TheConstants.{SCRIPT_LIMIT}
use Rattle.vcd_script.specs.declared.running.run_error.RunError.TheVariants as run_errors
use Rattle.vcd_script.specs.declared.running.run_error.Summary.{Summary}
use Rattle.vcd_script.specs.Script.{script_lines}
use Rattle.vcd_script.specs.Run.{RunOutcome}
use Rattle.vcd_hollow.specs.HollowRun.{last_edits, last_capture}
use Rattle.vcd_amend_run.specs.declared.running.Passes.{Passes}
use Rattle.vcd_amend_run.specs.declared.running.AmendRunError.{AmendRunError}
use Rattle.vcd_amend_run.specs.declared.running.AmendRunError.TheVariants.{Run, NameOfSkipped}
use Rattle.vcd_amend_run.specs.declared.running.AmendRunError.TheVariants.{LineRefused}
use Rattle.vcd_amend_run.specs.declared.running.AmendRunError.TheVariants.{CaptureChanged}
use Rattle.vcd_amend_run.specs.NewNames.{takes_skipped_name}
use Rattle.vcd_amend_run.specs.AmendRun.{IsAmendRun}

-- the ends of the passes over a capture file; `again` is the file as it is opened once more for
-- lines that are decoded while it is read
pub record PassEnds : Type 0 where
  pub declarations : DeviceEnd
  pub outline : DeviceEnd
  pub changes : DeviceEnd
  pub copy : DeviceEnd
  pub again : DeviceEnd

-- the same, by what the sources show
abbrev pub pass_ends : {R O : Type 0} → (coming : R → Option (List ℕ)) → (has_failed : R → Bool)
    → (whole : O → Option (List ℕ)) → (again_failed : O → Bool) → (old new : Passes R O) → PassEnds
pass_ends coming has_failed whole again_failed old new = record {
  declarations = device_end coming has_failed old.declarations new.declarations;
  outline = device_end coming has_failed old.outline new.outline;
  changes = device_end coming has_failed old.changes new.changes;
  copy = device_end coming has_failed old.copy new.copy;
  again = device_end whole again_failed old.again new.again;
}

-- no source has failed
pub record AreReady {R O : Type 0} (has_failed : R → Bool) (again_failed : O → Bool)
    (passes : Passes R O) : Type 0 where
  pub declarations : has_failed passes.declarations ≡ false
  pub outline : has_failed passes.outline ≡ false
  pub changes : has_failed passes.changes ≡ false
  pub copy : has_failed passes.copy ≡ false
  pub again : again_failed passes.again ≡ false

-- every pass shows this file
abbrev pub AllShow : PassEnds → List ℕ → Type 0
AllShow p file = (p.declarations.before ≡ Some file) × (p.outline.before ≡ Some file)
    × (p.changes.before ≡ Some file) × (p.copy.before ≡ Some file) × (p.again.before ≡ Some file)

-- a file that every pass shows has at most so many bytes
abbrev pub IsShortFile : PassEnds → Type 0
IsShortFile p = (file : List ℕ) → AllShow p file → length file ≤ LONG_FILE_LIMIT

-- of a file with this state, these lines give a signal the full name of a skipped variable
abbrev pub TakesSkippedName : (depth : ℕ) → (lines : List (List ℕ)) → ParseState → Type 0
TakesSkippedName depth lines s =
    let c : Contents = meaning s in
    let skipped : ℕ = count_by is_skipped s.declared in
    takes_skipped_name s.declared c.signals
    (origins (length c.signals) (last_edits c skipped depth lines))
    (last_capture c skipped depth lines).signals ≡ true

-- a number of bytes as a run counts it: the number itself below 2 ^ 128 - 1
abbrev pub counted : ℕ → ℕ
counted n = min n (2 ^ 128 - 1)

-- the fault of reading the file in this pass
abbrev pub FailsIn : DeviceEnd → ReadError → Type 0
FailsIn d e = ReadFails SIGNAL_LIMIT LONG_FILE_LIMIT d.before d.after d.has_failed e

-- the fault of reading a file of these bytes once more, if that has failed or not
abbrev pub FailsOnceMore : (whole : Option (List ℕ)) → (has_failed : Bool) → ReadError → Type 0
FailsOnceMore whole has_failed e =
    (left : Option (List ℕ)) × ReadFails SIGNAL_LIMIT LONG_FILE_LIMIT whole left has_failed e

-- the ends of the passes and of the script, and those of the two writers
module _ (depth : ℕ) (passes : PassEnds) (script replies : DeviceEnd) (output : Option DeviceEnd)
  where
    -- if every pass shows one file, and the script its bytes: holds of what amending the file by
    -- the script gives
    abbrev pub ForAmendRun : (RunOutcome → Type 0) → Type 0
    ForAmendRun property = (file lines : List ℕ) → AllShow passes file → script.before ≡ Some lines
        → (written : RunOutcome) × IsAmendRun file lines depth written × property written

    -- if every pass shows one file, and the script its bytes: what the script leaves can be written
    abbrev pub CanBeWritten : Type 0
    CanBeWritten = (file lines : List ℕ) → AllShow passes file → script.before ≡ Some lines
        → (s : ParseState) × Accepts SIGNAL_LIMIT (words_of file) s
        × (TakesSkippedName depth (script_lines lines) s → ⊥)

    -- nothing is written
    abbrev pub IsUnwritten : Type 0
    IsUnwritten = IsUntouched replies × IfSome output IsUntouched

    -- how it ends
    unfoldable pub AmendRunEnds : Result Summary AmendRunError → Type 0
    -- all replies are written, and the amended file if it is asked for and can be
    AmendRunEnds (Ok summary) = (replies.has_failed ≡ false) × IfSome output
        (λ out. (out.has_failed ≡ false) × CanBeWritten) × IsShortFile passes
        × ForAmendRun (λ written. HasText replies (concat written.replies)
        × IfSome output (λ out. HasText out written.output) × (summary.refused ≡ written.refused))
    -- one of the passes before the replies refuses the capture; or it could not be read again for a
    -- line, after the first bytes of the replies; or for the copy, after all of them
    AmendRunEnds (Err (Run (run_errors.Capture e))) =
        ((FailsIn passes.declarations e ⊎ FailsIn passes.outline e ⊎ FailsIn passes.changes e)
        × IsUnwritten)
        ⊎ (FailsOnceMore passes.again.before passes.again.has_failed e
        × IfSome output IsUntouched × ForAmendRun (λ written.
        (count : ℕ) × HasPrefix replies count (concat written.replies)))
        ⊎ (FailsIn passes.copy e
        × ForAmendRun (λ written. HasText replies (concat written.replies)))
    -- the script is above its limit, or its source failed, or memory ran out before the first line
    AmendRunEnds (Err (Run run_errors.ScriptTooLarge)) =
        IfSome script.before (λ bytes. SCRIPT_LIMIT < length bytes) × IsUnwritten
    AmendRunEnds (Err (Run run_errors.ScriptReadFault)) = (script.has_failed ≡ true) × IsUnwritten
    AmendRunEnds (Err (Run (run_errors.NoMemory zero))) = IsUnwritten
    -- memory ran out at a line, counted from 1: the replies to the lines before are written, and
    -- perhaps the first bytes of the reply to this one
    AmendRunEnds (Err (Run (run_errors.NoMemory (suc before)))) = IfSome output IsUntouched
        × ForAmendRun (λ written. (before < length written.replies) × (count : ℕ)
        × (length (concat (take before written.replies)) ≤ count)
        × (count ≤ length (concat (take (suc before) written.replies)))
        × HasPrefix replies count (concat written.replies))
    -- the writer of the replies failed: it took exactly so many bytes of them
    AmendRunEnds (Err (Run (run_errors.ReplyFault written_bytes))) = (replies.has_failed ≡ true)
        × IfSome output IsUntouched × ForAmendRun (λ written. (count : ℕ)
        × (written_bytes ≡ counted count) × HasPrefix replies count (concat written.replies))
    -- only a run with an output ends so (`MarkedRunEnds`)
    AmendRunEnds (Err (Run (run_errors.Write e))) = ⊥
    -- the file is to be written, and a signal that the script has renamed or derived has the full
    -- name of a skipped variable
    AmendRunEnds (Err NameOfSkipped) = (is_some output ≡ true) × IsUnwritten
        × ((file lines : List ℕ) → AllShow passes file → script.before ≡ Some lines
        → (s : ParseState) × Accepts SIGNAL_LIMIT (words_of file) s
        × TakesSkippedName depth (script_lines lines) s)
    -- only a run that is to write all or nothing ends so (`MarkedRunEnds`)
    AmendRunEnds (Err LineRefused) = ⊥
    -- the passes do not show one file: no byte of the output is written
    AmendRunEnds (Err CaptureChanged) = IfSome output IsUntouched
        × ((file : List ℕ) → AllShow passes file → ⊥)
