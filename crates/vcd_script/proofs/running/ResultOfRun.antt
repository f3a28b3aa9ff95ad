-- A run over bytes in memory: what it gives follows from how the run ended.
use Rattle.std.proofs.Common.{◌≡◌, Ok, Err, ℕ, zero, suc, List, [], Option, Some, Bool, false, true, sym, ◌∙◌, take}
use Rattle.std.proofs.Common.{refl, arith}
use Rattle.std.specs.List.{concat}
use Rattle.std.specs.Global.{Vec}
use Rattle.vcd_core.specs.declared.capture.TheConstants.{SIGNAL_LIMIT}
use Rattle.vcd_core.specs.Devices.{DeviceEnd, IsRead}
use Rattle.vcd_text.specs.Refusals as refusals
use Rattle.vcd_text.specs.inside.reading.Parser.{is_no_memory}
use Rattle.vcd_text.proofs.shared.FoundFault.{one_error, one_prefix_answer}
use Rattle.vcd_text.specs.declared.fault.Fault.TheVariants as faults
use Rattle.vcd_text.specs.declared.fault.ReadError.{ReadError}
use Rattle.vcd_text.specs.declared.fault.WriteError.TheVariants as write_errors
use Rattle.vcd_text.specs.declared.reading.TheConstants.{FILE_LIMIT}
use Rattle.vcd_script.specs.declared.running.script_input.TheConstants.{SCRIPT_LIMIT}
use Rattle.vcd_script.specs.declared.running.run_error.RunError.{RunError}
use Rattle.vcd_script.specs.declared.running.run_error.RunError.TheVariants as run_errors
use Rattle.vcd_script.specs.declared.running.run_error.Summary.{Summary}
use Rattle.vcd_script.specs.Run.{RunOutcome}
use Rattle.vcd_script.specs.RunEnds.{ForRun, RunEnds}
use Rattle.vcd_script.specs.declared.running.run_on_bytes.Stage.TheVariants.{Line}
use Rattle.vcd_script.specs.RunOnBytes.{IsRefusedFile, has_fault, too_large, IsRunWithin, RunGives}
use Rattle.vcd_script.specs.inside.running.RunOnBytes.{run_refusal, stage_of_line}

-- a line that is not 0 is the stage
pub stage_at : (line : ℕ) → (line ≡ 0 → ⊥) → Line line ≡ stage_of_line line
stage_at zero other = absurd (other refl)
stage_at (suc before) other = refl

-- a file is refused for one fault
pub one_refused_file : (file : List ℕ) (e other : ReadError) → IsRefusedFile file e → IsRefusedFile file other
    → other ≡ e
one_refused_file file e other (has_fault short fault) (has_fault also fault_too) =
    one_error SIGNAL_LIMIT file other e fault_too fault
one_refused_file file e other (has_fault short fault) (too_large long answer) = absurd (omega (arith, short, long))
one_refused_file file e other (too_large long answer) (has_fault short fault) = absurd (omega (arith, short, long))
one_refused_file file e other (too_large long answer) (too_large also answer_too) =
    one_prefix_answer SIGNAL_LIMIT (take FILE_LIMIT file) faults.TooLarge other e answer_too answer

-- the sources show two files, which were read to their ends
module _ (file script : List ℕ) (depth : ℕ) (capture lines : DeviceEnd) (is_file : capture.before ≡ Some file)
    (is_script : lines.before ≡ Some script) where
  run_within : (property : RunOutcome → Type 0) → IsRead FILE_LIMIT capture → IsRead SCRIPT_LIMIT lines
      → ForRun depth capture lines property
      → (written : RunOutcome) × IsRunWithin file script depth written × property written
  run_within property file_read script_read ran =
      let gives = rw (is_file, is_script) at ran in
      (gives.2, (rw is_file at file_read.2, rw is_script at script_read.2, gives.4), gives.5)

-- what a run gives that reached its end, into writers that were empty
pub texts_of_run : (file script replies_text output_text : List ℕ) (depth : ℕ)
    (capture lines replies output : DeviceEnd) (summary : Summary) →
    capture.before ≡ Some file → lines.before ≡ Some script → replies.before ≡ Some []
    → Some replies_text ≡ replies.after → output.before ≡ Some [] → Some output_text ≡ output.after
    → RunEnds depth capture lines replies (Some output) (Ok summary) →
    (written : RunOutcome) × IsRunWithin file script depth written × (replies_text ≡ concat written.replies)
    × (output_text ≡ written.output) × (summary.refused ≡ written.refused)
unfolding RunEnds
texts_of_run file script replies_text output_text depth capture lines replies output summary is_file is_script
    replies_empty replies_are output_empty output_is ends =
    let gives = rw (replies_empty, sym replies_are, output_empty, sym output_is)
    at (run_within file script depth capture lines is_file is_script _ ends.0.0 ends.1 ends.4) in
    (gives.0, gives.1, gives.2.0, gives.2.1, gives.2.2)

-- and one that ended before its end, by its error
module _ (file script : List ℕ) (depth : ℕ) (made none : Vec ℕ) (empty : none.items ≡ []) where
  -- a refused file of which the source has not failed, by whether memory was refused
  refused_file : (has_failed : Bool) (left : Option (List ℕ)) (e : ReadError) → has_failed ≡ false
      → refusals.IsRefusal SIGNAL_LIMIT FILE_LIMIT file has_failed left e
      → (out_of_memory : Bool) → is_no_memory e.fault ≡ out_of_memory
      → RunGives file script depth (Err (run_refusal (run_errors.Capture e) made none))
  refused_file has_failed left e ready refused true is = rw is empty
  refused_file has_failed left e ready (refusals.has_fault whole short fault) false is =
      rw is (has_fault short fault)
  refused_file has_failed left e ready (refusals.too_large whole long answer) false is =
      rw is (too_large long answer)
  refused_file has_failed left e ready (refusals.reader_failed prefix rest failed is_left is_prefix short answer) false
      is = let no : false ≡ true = sym ready ∙ failed in absurd (cc)
  refused_file has_failed left e ready (refusals.no_memory e_is) false is =
      let no : true ≡ false = rw e_is at is in absurd (cc)

  module _ (capture lines replies output : DeviceEnd) (is_file : capture.before ≡ Some file)
      (ready : capture.has_failed ≡ false) (is_script : lines.before ≡ Some script)
      (lines_ready : lines.has_failed ≡ false) (was_empty : replies.before ≡ Some [])
      (made_is : Some made.items ≡ replies.after) where
    within : (property : RunOutcome → Type 0) → IsRead FILE_LIMIT capture → IsRead SCRIPT_LIMIT lines
        → ForRun depth capture lines property
        → (written : RunOutcome) × IsRunWithin file script depth written × property written
    within = run_within file script depth capture lines is_file is_script

    pub refusal_of_run : (e : RunError) → RunEnds depth capture lines replies (Some output) (Err e)
        → RunGives file script depth (Err (run_refusal e made none))
    unfolding RunEnds
    refusal_of_run (run_errors.Capture e) ends =
        refused_file capture.has_failed capture.after e ready (rw is_file at ends.0).0 _ refl
    refusal_of_run run_errors.ScriptTooLarge ends =
        (rw is_file at ends.0.0.2, rw is_file at ends.0.1, rw is_script at ends.1)
    refusal_of_run run_errors.ScriptReadFault ends =
        let no : false ≡ true = sym lines_ready ∙ ends.1 in absurd (cc)
    -- a writer that was empty and is unchanged has taken nothing
    refusal_of_run (run_errors.NoMemory zero) ends =
        let same : Some made.items ≡ Some [] = made_is ∙ ends.1.0.0 ∙ was_empty in cc
    refusal_of_run (run_errors.NoMemory (suc before)) ends =
        let gives = rw (was_empty, sym made_is) at (within _ ends.0.0 ends.1 ends.3) in
        (gives.0, gives.1, gives.2.0, gives.2.1)
    refusal_of_run (run_errors.ReplyFault count) ends =
        let gives = within _ ends.0.0 ends.1 ends.4 in (gives.0, gives.1, empty)
    refusal_of_run (run_errors.Write write_errors.NoMemory) ends =
        rw (was_empty, sym made_is) at (within _ ends.0.0 ends.1 ends.4)
    refusal_of_run (run_errors.Write (write_errors.WriteFault count)) ends =
        let gives = rw (was_empty, sym made_is) at (within _ ends.0.0 ends.1 ends.3.1) in
        (gives.0, gives.1, gives.2.0)
