-- How a run ends: for each ending, the state of its sources and writers. The rules are the
-- project's own.
use Rattle.std.proofs.Common.{inl, inr}
use Rattle.std.specs.Prelude.{◌≡◌, ◌<◌, ◌⊎◌, ℕ, zero, suc, Bool, true, false, List, length}
use Rattle.std.specs.Prelude.{take, Option, Some}
use Rattle.std.specs.Prelude.{◌^◌, None, Result, Ok, Err, IfSome, IsSomeAnd}
use Rattle.std.specs.List.{concat}
use Rattle.std.specs.Borrow.{MutBor}
use Rattle.vcd_core.specs.Contents.{Contents}
use Rattle.vcd_core.specs.declared.capture.TheConstants.{SIGNAL_LIMIT}
use Rattle.vcd_core.specs.Devices.{DeviceEnd, device_end, HasPrefix, HasText, IsRead, IsUntouched}
use Rattle.vcd_text.specs.Meaning.{HasMeaning}
use Rattle.vcd_text.specs.Refusals.{IsRefusal, IsOnlyRefusal}
use Rattle.vcd_text.specs.declared.fault.Fault.TheVariants as faults
use Rattle.vcd_text.specs.declared.fault.WriteError.TheVariants as write_errors
use Rattle.vcd_text.specs.declared.reading.TheConstants.{FILE_LIMIT}
use Rattle.vcd_script.specs.declared.running.script_input.TheConstants.{SCRIPT_LIMIT}
use Rattle.vcd_script.specs.declared.running.run_error.RunError.{RunError}
use Rattle.vcd_script.specs.declared.running.run_error.RunError.TheVariants.{Capture}
use Rattle.vcd_script.specs.declared.running.run_error.RunError.TheVariants.{ScriptTooLarge}
use Rattle.vcd_script.specs.declared.running.run_error.RunError.TheVariants.{ScriptReadFault}
use Rattle.vcd_script.specs.declared.running.run_error.RunError.TheVariants.{NoMemory, ReplyFault}
use Rattle.vcd_script.specs.declared.running.run_error.RunError.TheVariants.{Write}
use Rattle.vcd_script.specs.declared.running.run_error.Summary.{Summary}
use Rattle.vcd_script.specs.Script.{script_lines}
use Rattle.vcd_script.specs.Run.{RunOutcome, outcome, IsRun}

-- ---- sources and writers

-- the capture read is within the limit and has a meaning
abbrev pub IsAccepted : DeviceEnd → Type 0
IsAccepted r = IsRead FILE_LIMIT r × IfSome r.before (HasMeaning SIGNAL_LIMIT)

-- what a call gives back of an `Option<&mut D>`, in the compiler's form: none, or one
abbrev pub Returned : Type 0 → Type 0
Returned D = Unit {0} ⊎ (MutBor D × Unit {0}) ⊎ ⊥

-- of devices, by what they show, and whether they have failed
module _ {D : Type 0} (shown : D → Option (List ℕ)) (has_failed : D → Bool) where
  -- holds of the end of the writer of the output, or of none: `out` is the `Option<&mut D>` as it
  -- was passed, `left` as it was returned; `⊥` where the variants differ, which cannot be
  abbrev pub ForOutput : Option (MutBor D) → Returned D → (Option DeviceEnd → Type 0) → Type 0
  ForOutput None left property = property None
  ForOutput (Some out) (inr (inl left)) property =
      property (Some (device_end shown has_failed out.now left.0.now))
  ForOutput (Some out) left property = ⊥

-- the writer of the output, if there is one, was flushed after the last byte that it took
abbrev pub IsOutputFlushed : {D : Type 0} → (D → Bool) → Option (MutBor D) → Returned D → Type 0
IsOutputFlushed is_flushed None left = Unit {0}
IsOutputFlushed is_flushed (Some out) (inr (inl left)) = is_flushed left.0.now ≡ true
IsOutputFlushed is_flushed (Some out) left = ⊥

-- at this error the writer of the replies was flushed after the last byte that it took; if memory
-- ran out at a line, only if it has not failed there
abbrev pub IsFlushedAt : (has_failed is_flushed : Bool) → RunError → Type 0
IsFlushedAt has_failed is_flushed (NoMemory (suc before)) = has_failed ≡ false → is_flushed ≡ true
IsFlushedAt has_failed is_flushed (Write e) = is_flushed ≡ true
IsFlushedAt has_failed is_flushed e = Unit {0}

-- ---- runs

-- a run of this depth, and the ends of its two sources
module _ (depth : ℕ) (capture script : DeviceEnd) where
  -- if the script shows its bytes: holds of what its run on some capture writes; if the capture
  -- file shows its bytes too, that is what its run on this file writes
  abbrev pub ForRun : (RunOutcome → Type 0) → Type 0
  ForRun property = IfSome script.before (λ lines. (c : Contents) × (skipped : ℕ)
      × (written : RunOutcome) × (written ≡ outcome c skipped depth (script_lines lines))
      × IfSome capture.before (λ file. IsRun file lines depth written) × property written)

  -- the same, with the ends of its two writers, the second if there is one
  module _ (replies : DeviceEnd) (output : Option DeviceEnd) where
    -- nothing is written
    abbrev pub IsUnwritten : Type 0
    IsUnwritten = IsUntouched replies × IfSome output IsUntouched

    -- how the run ends, by its result
    unfoldable pub RunEnds : Result Summary RunError → Type 0
    -- all replies are written, and the output if one is asked for
    RunEnds (Ok summary) = IsAccepted capture × IsRead SCRIPT_LIMIT script
        × (replies.has_failed ≡ false) × IfSome output (λ out. out.has_failed ≡ false)
        × ForRun (λ written. HasText replies (concat written.replies)
        × IfSome output (λ out. HasText out written.output) × (summary.refused ≡ written.refused))
    -- the capture is refused for a fault, its length, its source or memory: the script is unread
    RunEnds (Err (Capture e)) =
        IfSome capture.before (λ file. IsRefusal SIGNAL_LIMIT FILE_LIMIT file capture.has_failed
        capture.after e
        × IsOnlyRefusal SIGNAL_LIMIT FILE_LIMIT file capture.has_failed capture.after e)
        × (e.fault ≡ faults.ReadFault → capture.has_failed ≡ true)
        × (e.fault ≡ faults.TooLarge → capture.has_failed ≡ false)
        × IsUntouched script × IsUnwritten
    -- the script is above its limit
    RunEnds (Err ScriptTooLarge) = IsAccepted capture
        × IfSome script.before (λ bytes. SCRIPT_LIMIT < length bytes) × IsUnwritten
    -- the source of the script failed
    RunEnds (Err ScriptReadFault) = IsAccepted capture × (script.has_failed ≡ true) × IsUnwritten
    -- memory ran out before the first line
    RunEnds (Err (NoMemory zero)) = IsAccepted capture × IsUnwritten
    -- memory ran out at a line, counted from 1: exactly the replies to the lines before it are
    -- written
    RunEnds (Err (NoMemory (suc before))) = IsAccepted capture × IsRead SCRIPT_LIMIT script
        × IfSome output IsUntouched × ForRun (λ written.
        (before < length written.replies) × HasText replies (concat (take before written.replies)))
    -- the writer of the replies failed: it took exactly `count` bytes of them
    RunEnds (Err (ReplyFault count)) = IsAccepted capture × IsRead SCRIPT_LIMIT script
        × (replies.has_failed ≡ true) × IfSome output IsUntouched
        × ForRun (λ written. HasPrefix replies count (concat written.replies))
    -- memory ran out for the output: all replies are written, and none of the output
    RunEnds (Err (Write write_errors.NoMemory)) = IsAccepted capture × IsRead SCRIPT_LIMIT script
        × (replies.has_failed ≡ false)
        × IsSomeAnd output IsUntouched
        × ForRun (λ written. HasText replies (concat written.replies))
    -- the writer of the output failed: it took exactly `count` bytes of the output, if a `u128` can
    -- count these; all replies are written
    RunEnds (Err (Write (write_errors.WriteFault count))) = IsAccepted capture
        × IsRead SCRIPT_LIMIT script × (replies.has_failed ≡ false)
        × IsSomeAnd output (λ out. (out.has_failed ≡ true)
        × ForRun (λ written. HasText replies (concat written.replies)
        × (length written.output < 2 ^ 128 → HasPrefix out count written.output)))
