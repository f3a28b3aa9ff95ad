-- Bytes in memory amended by a script: what is given follows from how the run ended.
use Rattle.std.proofs.Common.{◌≡◌, Ok, Err, ℕ, zero, suc, List, [], Option, Some, None, false, true}
use Rattle.std.proofs.Common.{sym, ap, subst, ◌∙◌, ◌<◌, ◌≤◌, inl, inr, take, length}
use Rattle.std.proofs.Math.Seq.{take-length}
use Rattle.std.specs.Prelude.{◌⊎◌}
use Rattle.std.specs.List.{concat}
use Rattle.vcd_core.specs.declared.capture.TheConstants.{SIGNAL_LIMIT}
use Rattle.vcd_core.specs.Devices.{DeviceEnd, IsUntouched}
use Rattle.vcd_text.specs.Words.{words_of}
use Rattle.vcd_text.specs.Grammar.{ParseState, Accepts}
use Rattle.vcd_text.specs.Refusals as refusals
use Rattle.vcd_text.specs.declared.fault.Fault.TheVariants as faults
use Rattle.vcd_text.specs.declared.fault.ReadError.{ReadError}
use Rattle.vcd_text.specs.declared.reading.TheConstants.{LONG_FILE_LIMIT}
use Rattle.vcd_script.specs.declared.running.run_error.RunError.TheVariants as run_errors
use Rattle.vcd_script.specs.declared.running.run_error.Summary.{Summary}
use Rattle.vcd_script.specs.Script.{script_lines}
use Rattle.vcd_script.specs.Run.{RunOutcome, IsRun, outcome}
use Rattle.vcd_copy.specs.Pieces.{Piece}
use Rattle.vcd_copy.proofs.marks.MarkedFiles.{unmarked}
use Rattle.vcd_amend_run.specs.EditedText.{edited_text}
use Rattle.vcd_amend_run.specs.declared.running.AmendRunError.{AmendRunError}
use Rattle.vcd_amend_run.specs.declared.running.AmendRunError.TheVariants as errors
use Rattle.vcd_amend_run.specs.declared.running.RunOptions.{RunOptions}
use Rattle.vcd_amend_run.specs.AmendRun.{IsAmendRun}
use Rattle.vcd_amend_run.specs.MarkedRun.{IsMarkedRun, MarkedRunEnds}
use Rattle.vcd_amend_run.specs.AmendRunEnds.{PassEnds, AllShow, FailsIn, TakesSkippedName, AmendRunEnds}
use Rattle.vcd_amend_run.specs.AmendOnBytes.{IsEditedFile, IsRefusedLongFile, has_fault, too_large, AmendFails}
use Rattle.vcd_amend_run.proofs.on_bytes.EditedFile.{run_of_amend_run}

-- the options of a run on bytes
abbrev plain : (depth : ℕ) → RunOptions
plain depth = record { depth = depth; mark = None; is_all_or_nothing = false }

-- without a mark a run is as it is
unmarked_run : (file script : List ℕ) (depth : ℕ) (written : RunOutcome) → IsMarkedRun None file script depth written
    → IsAmendRun file script depth written
unmarked_run file script depth written m = record {
  contents = m.contents;
  skipped = m.skipped;
  pieces = m.pieces;
  tail = m.tail;
  means = m.means;
  run = m.run ∙ ap (λ (ps : List Piece). record (outcome m.contents m.skipped depth (script_lines script)) {
    output = edited_text m.contents m.skipped depth (script_lines script) ps m.tail;
  }) (unmarked m.pieces);
}

-- and ends so
pub unmarked_ends : (depth : ℕ) (passes : PassEnds) (lines replies out : DeviceEnd) (summary : Summary)
    → MarkedRunEnds (plain depth) passes lines replies (Some out) (Ok summary)
    → AmendRunEnds depth passes lines replies (Some out) (Ok summary)
unfolding AmendRunEnds
unmarked_ends depth passes lines replies out summary ends = (
  ends.replies_ready,
  (ends.out_ready, ends.possible),
  ends.short,
  λ file script shows is_script.
      let run = ends.run file script shows is_script in (
        run.0,
        unmarked_run file script depth run.0 run.1,
        (run.2.0, run.2.1, run.2.2),
      ),
)

-- a refused file of which the source has not failed
refused_file : (file : List ℕ) (left : Option (List ℕ)) (e : ReadError)
    → refusals.IsRefusal SIGNAL_LIMIT LONG_FILE_LIMIT file false left e
    → IsRefusedLongFile file e ⊎ (e ≡ record { line = 0; fault = faults.NoMemory })
refused_file file left e (refusals.has_fault whole short fault) = inl (has_fault short fault)
refused_file file left e (refusals.too_large whole long answer) = inl (too_large long answer)
refused_file file left e (refusals.reader_failed prefix rest failed is_left is_prefix short answer) =
    absurd (cc)
refused_file file left e (refusals.no_memory is) = inr is

-- a pass over the file that refuses it
refused_in : (file : List ℕ) (d : DeviceEnd) (e : ReadError) → d.before ≡ Some file → d.has_failed ≡ false
    → FailsIn d e → IsRefusedLongFile file e ⊎ (e ≡ record { line = 0; fault = faults.NoMemory })
refused_in file d e shows ready fails = refused_file file d.after e (rw (shows, ready) at fails.refused)

-- where the passes show a file and the script its bytes, and the replies go to a writer that was empty
module _ (file script : List ℕ) (depth : ℕ) (made : List ℕ) (passes : PassEnds) (lines replies output : DeviceEnd)
    (shows : AllShow passes file) (is_script : lines.before ≡ Some script) (was_empty : replies.before ≡ Some [])
    (made_is : Some made ≡ replies.after) where
  nothing_made : IsUntouched replies → made ≡ []
  nothing_made untouched = let same : Some made ≡ Some [] = made_is ∙ untouched.0 ∙ was_empty in cc

  -- what is given where a run reached its end
  pub texts_of_run : (text : List ℕ) (summary : Summary) → output.before ≡ Some [] → Some text ≡ output.after
      → AmendRunEnds depth passes lines replies (Some output) (Ok summary)
      → ((length file ≤ LONG_FILE_LIMIT)
      × (written : RunOutcome) × (ran : IsRun file script depth written) × (made ≡ concat written.replies)
      × (summary.refused ≡ written.refused)
      × IsEditedFile file ran.contents ran.skipped depth (script_lines script) text
      × (s : ParseState) × Accepts SIGNAL_LIMIT (words_of file) s
      × (TakesSkippedName depth (script_lines script) s → ⊥))
      × ((written : RunOutcome) × IsAmendRun file script depth written × (text ≡ written.output))
  unfolding AmendRunEnds
  texts_of_run text summary output_empty output_is ends =
      let one = rw (was_empty, sym made_is, output_empty, sym output_is) at (ends.3 file script shows is_script) in
      let run = run_of_amend_run file script depth one.0 one.1 in
      let can = ends.1.1 file script shows is_script in (
        (
          ends.2 file shows,
          run.0,
          run.1,
          one.2.0 ∙ ap concat run.2,
          one.2.2 ∙ run.3,
          subst (IsEditedFile file run.1.contents run.1.skipped depth (script_lines script)) (sym one.2.1) run.4,
          can.0,
          can.1,
          can.2,
        ),
        (one.0, one.1, one.2.1),
      )

  module _ (lines_ready : lines.has_failed ≡ false) (declarations_ready : passes.declarations.has_failed ≡ false)
      (outline_ready : passes.outline.has_failed ≡ false) (changes_ready : passes.changes.has_failed ≡ false)
      (copy_ready : passes.copy.has_failed ≡ false) (again_ready : passes.again.has_failed ≡ false) where
    -- and where an error ended it
    pub refusal_of_run : (e : AmendRunError)
        → MarkedRunEnds (plain depth) passes lines replies (Some output) (Err e)
        → AmendFails file script depth made e
    unfolding AmendRunEnds
    refusal_of_run (errors.Run (run_errors.Capture e)) (inl (inl fails, unwritten)) =
        (refused_in file passes.declarations e shows.0 declarations_ready fails, inl (nothing_made unwritten.0))
    refusal_of_run (errors.Run (run_errors.Capture e)) (inl (inr (inl fails), unwritten)) =
        (refused_in file passes.outline e shows.1 outline_ready fails, inl (nothing_made unwritten.0))
    refusal_of_run (errors.Run (run_errors.Capture e)) (inl (inr (inr fails), unwritten)) =
        (refused_in file passes.changes e shows.2 changes_ready fails, inl (nothing_made unwritten.0))
    refusal_of_run (errors.Run (run_errors.Capture e)) (inr (inl (fails, kept, replied))) =
        let one = rw (was_empty, sym made_is) at (replied file script shows is_script) in
        let run = run_of_amend_run file script depth one.0 one.1 in (
          refused_file file fails.0 e (rw (shows.4, again_ready) at fails.1.refused),
          inr (
            run.0,
            run.1,
            one.2.0,
            one.2.1.1 ∙ ap (λ (texts : List (List ℕ)). take one.2.0 (concat texts)) run.2,
          ),
        )
    refusal_of_run (errors.Run (run_errors.Capture e)) (inr (inr (fails, replied))) =
        let one = rw (was_empty, sym made_is) at (replied file script shows is_script) in
        let run = run_of_amend_run file script depth one.0 one.1 in (
          refused_in file passes.copy e shows.3 copy_ready fails,
          inr (
            run.0,
            run.1,
            length (concat run.0.replies),
            one.2 ∙ ap concat run.2 ∙ sym (take-length (concat run.0.replies)),
          ),
        )
    refusal_of_run (errors.Run run_errors.ScriptTooLarge) ends = (rw is_script at ends.0, nothing_made ends.1.0)
    refusal_of_run (errors.Run run_errors.ScriptReadFault) ends =
        let no : false ≡ true = sym lines_ready ∙ ends.0 in absurd (cc)
    refusal_of_run (errors.Run (run_errors.NoMemory zero)) ends = nothing_made ends.0
    refusal_of_run (errors.Run (run_errors.NoMemory (suc before))) ends =
        let one = rw (was_empty, sym made_is) at (ends.1 file script shows is_script) in
        let run = run_of_amend_run file script depth one.0 one.1 in
        let (less, count, least, most, is) = in_part run.0 one.0 run.2 one.2 in
        (run.0, run.1, less, count, least, most, is)
      where
        in_part : (w v : RunOutcome) → v.replies ≡ w.replies
            → (before < length v.replies) × (count : ℕ) × (length (concat (take before v.replies)) ≤ count)
            × (count ≤ length (concat (take (suc before) v.replies)))
            × ((count ≤ length (concat v.replies)) × (made ≡ take count (concat v.replies)))
            → (before < length w.replies) × (count : ℕ) × (length (concat (take before w.replies)) ≤ count)
            × (count ≤ length (concat (take (suc before) w.replies))) × (made ≡ take count (concat w.replies))
        in_part w v same (less, count, least, most, (within, is)) =
            subst (λ (texts : List (List ℕ)). (before < length texts) × (n : ℕ)
            × (length (concat (take before texts)) ≤ n) × (n ≤ length (concat (take (suc before) texts)))
            × (made ≡ take n (concat texts))) same (less, count, least, most, is)
    refusal_of_run (errors.Run (run_errors.ReplyFault bytes)) ends =
        let one = rw (was_empty, sym made_is) at (ends.2 file script shows is_script) in
        let run = run_of_amend_run file script depth one.0 one.1 in (
          run.0,
          run.1,
          one.2.0,
          one.2.1,
          one.2.2.1 ∙ ap (λ (texts : List (List ℕ)). take one.2.0 (concat texts)) run.2,
        )
    refusal_of_run (errors.Run (run_errors.Write e)) ends =
        let one = rw (was_empty, sym made_is) at (ends.run file script shows is_script) in
        let run = run_of_amend_run file script depth one.0 (unmarked_run file script depth one.0 one.1) in
        (run.0, run.1, one.2.0 ∙ ap concat run.2)
    refusal_of_run errors.NameOfSkipped ends =
        let found = ends.2 file script shows is_script in (nothing_made ends.1.0, found.0, found.1, found.2)
    refusal_of_run errors.LineRefused ends = let no : false ≡ true = ends.asked in absurd (cc)
    refusal_of_run errors.CaptureChanged ends = absurd (ends.1 file shows)
