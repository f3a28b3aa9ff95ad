-- How a run ends, at each place where it can.
use Rattle.std.proofs.Common.{◌≡◌, ◌≢◌, inl, inr, Result, Ok, Err, ℕ, zero, suc, List, Some}
use Rattle.std.proofs.Common.{None}
use Rattle.std.proofs.Common.{refl, sym, subst, ap, ◌∙◌, ◌-◌, Bool, true, false, length, arith}
use Rattle.std.specs.Prelude.{IfSome, IfErr, IsErrAnd, take, ◌≤◌}
use Rattle.std.specs.List.{concat}
use Rattle.std.proofs.lemmas.Bool.{false≢true}
use Rattle.std.specs.Io.KnownBytes.{Appends}
use Rattle.vcd_core.specs.declared.capture.TheConstants.{SIGNAL_LIMIT}
use Rattle.vcd_core.specs.Contents.{Contents}
use Rattle.vcd_core.specs.Outline.{outline}
use Rattle.vcd_core.specs.Devices.{DeviceEnd, IsUntouched, HasText}
use Rattle.vcd_text.specs.Words.{words_of}
use Rattle.vcd_text.specs.Grammar.{ParseState, VariableDeclaration, Accepts}
use Rattle.vcd_amend.specs.DeclaredVariables.{HaveSizesOf}
use Rattle.vcd_journal.specs.History.{initial_history}
use Rattle.vcd_journal.specs.Machine.{initial_machine}
use Rattle.vcd_text.proofs.shared.ResultIsUnique.{one_meaning}
use Rattle.vcd_script.specs.Script.{script_lines}
use Rattle.vcd_script.specs.Run.{RunOutcome}
use Rattle.vcd_script.proofs.shared.LinesAndHistory.{outcome_is}
use Rattle.vcd_copy.specs.CopyEnds.{CopyFails, TookFirst}
use Rattle.vcd_text.specs.WriteEnds.{TookBefore}
use Rattle.vcd_text.specs.declared.fault.ReadError.{ReadError}
use Rattle.vcd_text.specs.declared.fault.WriteError.{WriteError}
use Rattle.vcd_text.specs.declared.fault.WriteError.TheVariants as write_errors
use Rattle.vcd_text.specs.declared.fault.WriteError.TheVariants.{WriteFault}
use Rattle.vcd_copy.specs.declared.copying.copy_error.CopyError.{CopyError}
use Rattle.vcd_copy.specs.declared.copying.copy_error.CopyError.TheVariants as copy_errors
use Rattle.vcd_text.specs.declared.reading.TheConstants.{LONG_FILE_LIMIT}
use Rattle.vcd_script.specs.ScriptFaults.{ScriptFails}
use Rattle.vcd_script.specs.SessionLines.{line_replies}
use Rattle.vcd_script.specs.declared.running.run_error.RunError.{RunError}
use Rattle.vcd_script.specs.declared.running.run_error.Summary.{Summary}
use Rattle.vcd_script.specs.declared.running.run_error.RunError.TheVariants as run_errors
use Rattle.vcd_amend_run.specs.declared.running.AmendRunError.{AmendRunError}
use Rattle.vcd_amend_run.specs.declared.running.AmendRunError.TheVariants as errors
use Rattle.vcd_amend_run.specs.declared.hearing.HearError.{HearError}
use Rattle.vcd_amend_run.specs.declared.hearing.HearError.TheVariants as hear_errors
use Rattle.vcd_amend.specs.declared.cut_ticks.CutTicks.{CutTicks}
use Rattle.vcd_amend_run.specs.AmendRun.{IsAmendRun}
use Rattle.vcd_amend_run.specs.FileParts.{HasOutline, HasOtherOutline, HearFails}
use Rattle.vcd_amend_run.specs.AmendRunEnds.{PassEnds, AllShow, FailsIn, ForAmendRun, IsShortFile, AmendRunEnds}
use Rattle.vcd_amend_run.specs.AmendRunEnds.{FailsOnceMore}
use Rattle.vcd_amend_run.specs.declared.streamed_line.StreamedLine.{StreamedLine}
use Rattle.vcd_amend_run.specs.inside.PlannedLines.{IsPlannedOn, StopsInPlanned, StopsInLinesPlanned}
use Rattle.vcd_amend_run.specs.inside.StreamedLines.{ArePlanned}
use Rattle.vcd_amend_run.specs.inside.Running.{RefusesPlan}
use Rattle.vcd_amend_run.specs.inside.Running.{IsPlanned, IsEdited, EndsBeforeReplies}
use Rattle.vcd_amend_run.specs.inside.Running.{EndsBeforeCopy, HasEditLines, IsAmendedFor}
use Rattle.vcd_amend_run.specs.MarkedRun.{MarkedRunEnds, IsMarkedRun, mark_with}
use Rattle.vcd_amend_run.specs.declared.running.RunOptions.{RunOptions}
use Rattle.vcd_amend_run.specs.inside.Running.{EndsInLines, error_of_hearing, error_of_copy}
use Rattle.vcd_amend_run.proofs.running.PlannedRun.{sizes_agree, names_of_file}
use Rattle.vcd_amend_run.proofs.running.CarriedOut.{is_run}
use Rattle.vcd_amend_run.proofs.running.MarkedRun.{marked_is_written, marked_run}

-- ---- after the last reply

module _ (depth : ℕ) (passes : PassEnds) (script replies : DeviceEnd) (declared : List VariableDeclaration)
    (first : Contents) (ks : List ℕ) (cs : List CutTicks) (last : Contents) (refused : ℕ) where
  -- what is known where the passes before the copy show one file
  abbrev pub AreEdited : Bool → Type 0
  AreEdited writes = (file lines : List ℕ)
      → (passes.declarations.before ≡ Some file) × (passes.outline.before ≡ Some file)
      × (passes.changes.before ≡ Some file) × (passes.again.before ≡ Some file) → script.before ≡ Some lines
      → IsEdited file lines depth writes (Appends replies.before replies.after) declared first ks cs last refused

  -- the outline was read of a file that is not too long
  short_file : IfSome passes.outline.before (λ file. length file ≤ LONG_FILE_LIMIT) → IsShortFile passes
  short_file short file shows = subst (λ coming. IfSome coming (λ f. length f ≤ LONG_FILE_LIMIT)) shows.1 short

  -- the end without an output
  pub ends_without_output : (writes : Bool) → AreEdited writes → replies.has_failed ≡ false
      → IfSome passes.outline.before (λ file. length file ≤ LONG_FILE_LIMIT)
      → AmendRunEnds depth passes script replies None (Ok (record { refused = refused }))
  unfolding AmendRunEnds
  ends_without_output writes edited ready short = (
    ready,
    tt,
    short_file short,
    λ file lines shows script_shows.
        let one = edited file lines (shows.0, shows.1, shows.2, shows.4) script_shows in
        let run = is_run file lines depth one.whole one.skipped one.means in (
          run.0,
          run.1,
          (
            subst (λ (texts : List (List ℕ)). Appends replies.before replies.after (concat texts)) (sym run.2)
                one.replies,
            tt,
            one.count ∙ sym run.3,
          ),
        ),
  )

  -- all replies are written
  replied : AreEdited true → ForAmendRun depth passes script replies None
      (λ written. HasText replies (concat written.replies))
  replied edited file lines shows script_shows =
      let one = edited file lines (shows.0, shows.1, shows.2, shows.4) script_shows in
      let run = is_run file lines depth one.whole one.skipped one.means in (
        run.0,
        run.1,
        subst (λ (texts : List (List ℕ)). Appends replies.before replies.after (concat texts))
            (sym run.2) one.replies,
      )

-- ---- the end with an output, by what is asked of the run

module _ (o : RunOptions) (passes : PassEnds) (script replies : DeviceEnd) (declared : List VariableDeclaration)
    (first : Contents) (ks : List ℕ) (cs : List CutTicks) (last : Contents) (refused : ℕ) where
  abbrev AreEditedFor : Bool → Type 0
  AreEditedFor = AreEdited o.depth passes script replies declared first ks cs last refused

  -- a text that is the amended file is that of the run with the mark
  written_for : (file lines text : List ℕ) (edits : List (List ℕ))
      → IsEdited file lines o.depth true (Appends replies.before replies.after) declared first ks cs last refused
      → HasEditLines file lines o.depth edits
      → IsAmendedFor declared first ks cs last (mark_with o.mark edits) file text
      → (written : RunOutcome) × IsMarkedRun o.mark file lines o.depth written
      × HasText replies (concat written.replies) × (text ≡ written.output) × (refused ≡ written.refused)
  written_for file lines text edits one lines_are (a, is_for, amended) =
      marked_is_written file lines o.depth (Appends replies.before replies.after) declared first ks cs last refused
      o.mark edits one lines_are text a is_for amended

  -- the file is written, with a mark if one is asked for
  pub ends_with_output : (edits : List (List ℕ)) (out : DeviceEnd) → AreEditedFor true
      → ((file lines : List ℕ) → (passes.declarations.before ≡ Some file) × (passes.outline.before ≡ Some file)
      × (passes.changes.before ≡ Some file) × (passes.again.before ≡ Some file) → script.before ≡ Some lines
      → HasEditLines file lines o.depth edits)
      → replies.has_failed ≡ false → out.has_failed ≡ false
      → IfSome passes.outline.before (λ file. length file ≤ LONG_FILE_LIMIT)
      → (o.is_all_or_nothing ≡ true → refused ≡ 0)
      → IfSome passes.copy.before (λ file. (text : List ℕ)
      × IsAmendedFor declared first ks cs last (mark_with o.mark edits) file text × Appends out.before out.after text)
      → MarkedRunEnds o passes script replies (Some out) (Ok (record { refused = refused }))
  ends_with_output edits out edited edits_are ready out_ready short none_refused copied = record {
    replies_ready = ready;
    out_ready = out_ready;
    possible = λ file lines shows script_shows.
        let one = edited file lines (shows.0, shows.1, shows.2, shows.4) script_shows in
        let s : ParseState = one.means.state in
        let all : List (List ℕ) = script_lines lines in (
          s,
          one.means.accepted,
          λ taken. false≢true (sym (names_of_file file all o.depth declared one.skipped one.whole ks false one.means
              one.origins_are (one.variables s one.means.accepted) (one.free refl)) ∙ taken),
        );
    short = short_file o.depth passes script replies declared first ks cs last refused short;
    none_refused = none_refused;
    run = λ file lines shows script_shows.
        let one = edited file lines (shows.0, shows.1, shows.2, shows.4) script_shows in
        let (text, is, took) = subst (λ coming. IfSome coming (λ f. (text : List ℕ)
        × IsAmendedFor declared first ks cs last (mark_with o.mark edits) f text
        × Appends out.before out.after text)) shows.3 copied in
        let run = written_for file lines text edits one
        (edits_are file lines (shows.0, shows.1, shows.2, shows.4) script_shows) is in
        (run.0, run.1, (run.2, subst (Appends out.before out.after) run.3 took, run.4));
  }

  -- the end at a fault of the copy
  pub ends_at_copy : (edits : List (List ℕ)) (out : DeviceEnd) (e : CopyError) → AreEditedFor true
      → ((file lines : List ℕ) → (passes.declarations.before ≡ Some file) × (passes.outline.before ≡ Some file)
      × (passes.changes.before ≡ Some file) × (passes.again.before ≡ Some file) → script.before ≡ Some lines
      → HasEditLines file lines o.depth edits)
      → CopyFails SIGNAL_LIMIT LONG_FILE_LIMIT passes.copy.before passes.copy.after passes.copy.has_failed out.before
      out.after out.has_failed e
      → TookFirst SIGNAL_LIMIT (IsAmendedFor declared first ks cs last (mark_with o.mark edits)) passes.copy.before
      out.before out.after out.has_failed e
      → MarkedRunEnds o passes script replies (Some out) (Err (error_of_copy e))
  unfolding AmendRunEnds
  ends_at_copy edits out (copy_errors.Read e) edited edits_are fails begun =
      inr (inr (fails, replied o.depth passes script replies declared first ks cs last refused edited))
  ends_at_copy edits out (copy_errors.Write e) edited edits_are fails begun = record {
    some = (fails.1, fails.2);
    run = λ file lines shows script_shows.
        let one = edited file lines (shows.0, shows.1, shows.2, shows.4) script_shows in
        by_fault file lines one (edits_are file lines (shows.0, shows.1, shows.2, shows.4) script_shows) e fails.2
        (λ has_failed. subst (λ coming. IfSome coming (λ f. (s : ParseState) → Accepts SIGNAL_LIMIT (words_of f) s
        → (text : List ℕ) × IsAmendedFor declared first ks cs last (mark_with o.mark edits) f text
        × TookBefore text out.before out.after out.has_failed e)) shows.3 (begun has_failed) one.means.state
        one.means.accepted);
  }
    where
      by_fault : (file lines : List ℕ)
          → IsEdited file lines o.depth true (Appends replies.before replies.after) declared first ks cs last refused
          → HasEditLines file lines o.depth edits → (e : WriteError)
          → TookBefore fails.1 out.before out.after out.has_failed e
          → (out.has_failed ≡ true → (text : List ℕ)
          × IsAmendedFor declared first ks cs last (mark_with o.mark edits) file text
          × TookBefore text out.before out.after out.has_failed e)
          → (written : RunOutcome) × IsMarkedRun o.mark file lines o.depth written
          × (HasText replies (concat written.replies)
          × TookBefore written.output out.before out.after out.has_failed e)
      by_fault file lines one lines_are write_errors.NoMemory took begins =
          let run = marked_run file lines o.depth (Appends replies.before replies.after) declared first ks cs last
          refused o.mark edits one lines_are in
          (run.0, run.1, (run.2, took))
      by_fault file lines one lines_are (WriteFault count) took begins =
          let (text, is, first_taken) = begins took.1 in
          let run = written_for file lines text edits one lines_are is in (
            run.0,
            run.1,
            (
              run.2,
              subst (λ t. TookBefore t out.before out.after out.has_failed (WriteFault count)) run.3 first_taken,
            ),
          )

  -- a line is refused, and so nothing is written
  pub ends_unwritten : (out : DeviceEnd) → AreEditedFor true → o.is_all_or_nothing ≡ true → refused ≢ 0
      → IsUntouched out
      → MarkedRunEnds o passes script replies (Some out) (Err errors.LineRefused)
  ends_unwritten out edited asked some untouched = record {
    asked = asked;
    untouched = untouched;
    run = λ file lines shows script_shows.
        let one = edited file lines (shows.0, shows.1, shows.2, shows.4) script_shows in
        let run = is_run file lines o.depth one.whole one.skipped one.means in (
          run.0,
          run.1,
          (
            subst (λ (texts : List (List ℕ)). Appends replies.before replies.after (concat texts)) (sym run.2)
                one.replies,
            subst (λ n. n ≢ 0) (one.count ∙ sym run.3) some,
          ),
        );
  }

-- ---- ends before the replies

module _ (passes : PassEnds) (script : DeviceEnd) where
  pub declarations_end : (e : ReadError) → FailsIn passes.declarations e
      → EndsBeforeReplies passes script (errors.Run (run_errors.Capture e))
  unfolding AmendRunEnds
  declarations_end e fails depth writes replies untouched output asked kept = inl (inl fails, (untouched, kept))

  pub outline_ends : (e : ReadError) → FailsIn passes.outline e
      → EndsBeforeReplies passes script (errors.Run (run_errors.Capture e))
  unfolding AmendRunEnds
  outline_ends e fails depth writes replies untouched output asked kept = inl (inr (inl fails), (untouched, kept))

  pub sizes_end : (declared : List VariableDeclaration) (o : Contents) (skipped : ℕ) (e : AmendRunError)
      → (e ≡ errors.CaptureChanged) × (HaveSizesOf o.signals declared → ⊥)
      → IfSome passes.declarations.before (λ f. (s : ParseState) → Accepts SIGNAL_LIMIT (words_of f) s
      → declared ≡ s.declared)
      → IfSome passes.outline.before (λ f. (length f ≤ LONG_FILE_LIMIT) × HasOutline SIGNAL_LIMIT f o skipped)
      → EndsBeforeReplies passes script e
  unfolding AmendRunEnds
  sizes_end declared o skipped e differs variables outlined depth writes replies untouched output asked kept =
      rw (differs.0) (
        kept,
        λ file shows. differs.1 (sizes_agree file declared o skipped
            (subst (λ coming. IfSome coming (λ f. (s : ParseState) → Accepts SIGNAL_LIMIT (words_of f) s
            → declared ≡ s.declared)) shows.0 variables)
            (subst (λ coming. IfSome coming (λ f. (length f ≤ LONG_FILE_LIMIT)
            × HasOutline SIGNAL_LIMIT f o skipped)) shows.1 outlined).1),
      )

  pub memory_ends : EndsBeforeReplies passes script (errors.Run (run_errors.NoMemory 0))
  unfolding AmendRunEnds
  memory_ends depth writes replies untouched output asked kept = (untouched, kept)

  pub script_ends : (e : RunError) → ScriptFails script e → EndsBeforeReplies passes script (errors.Run e)
  unfolding AmendRunEnds
  script_ends run_errors.ScriptTooLarge fails depth writes replies untouched output asked kept =
      (fails, (untouched, kept))
  script_ends run_errors.ScriptReadFault fails depth writes replies untouched output asked kept =
      (fails, (untouched, kept))
  script_ends (run_errors.NoMemory zero) fails depth writes replies untouched output asked kept = (untouched, kept)
  script_ends (run_errors.NoMemory (suc n)) fails depth writes replies untouched output asked kept = absurd fails
  script_ends (run_errors.Capture fault) fails depth writes replies untouched output asked kept = absurd fails
  script_ends (run_errors.ReplyFault n) fails depth writes replies untouched output asked kept = absurd fails
  script_ends (run_errors.Write fault) fails depth writes replies untouched output asked kept = absurd fails

  pub hearing_ends : (o declared : Contents) (skipped : ℕ) (e : HearError) → declared ≡ o
      → IfSome passes.outline.before (λ f. (length f ≤ LONG_FILE_LIMIT) × HasOutline SIGNAL_LIMIT f o skipped)
      → HearFails SIGNAL_LIMIT LONG_FILE_LIMIT declared passes.changes.before passes.changes.after
      passes.changes.has_failed e
      → EndsBeforeReplies passes script (error_of_hearing e)
  unfolding AmendRunEnds
  hearing_ends o declared skipped (hear_errors.Read error) same outlined fails depth writes replies untouched output
      asked kept =
      inl (inr (inr fails), (untouched, kept))
  hearing_ends o declared skipped hear_errors.Changed same outlined fails depth writes replies untouched output
      asked kept = (
        kept,
        λ file shows.
            let was = (subst (λ coming. IfSome coming (λ f. (length f ≤ LONG_FILE_LIMIT)
            × HasOutline SIGNAL_LIMIT f o skipped)) shows.1 outlined).1 in
            let now = subst (λ coming. IfSome coming (λ f. HasOtherOutline SIGNAL_LIMIT f declared)) shows.2 fails in
            now.other (ap outline (one_meaning SIGNAL_LIMIT file now.whole was.whole now.skipped skipped now.means
            was.means).0 ∙ sym was.is ∙ sym same),
      )

-- ---- ends before the copy

module _ (depth : ℕ) (writes : Bool) (passes : PassEnds) (script replies : DeviceEnd)
    (declared : List VariableDeclaration) (skipped : ℕ) (first : Contents) (streamed : List StreamedLine)
    (ks : List ℕ) (cs : List CutTicks) (takes : Bool) (bytes : List ℕ) where
  -- what is known where the passes before the copy show one file
  abbrev IsPlan : Type 0
  IsPlan = (file lines : List ℕ) → (passes.declarations.before ≡ Some file)
      × (passes.outline.before ≡ Some file) × (passes.changes.before ≡ Some file)
      × (passes.again.before ≡ Some file) → script.before ≡ Some lines
      → IsPlanned file lines depth declared skipped first streamed ks cs takes × (bytes ≡ lines)

  -- a plan that is refused
  pub plan_ends : (e : AmendRunError) → RefusesPlan writes takes e → IsPlan → IsUntouched replies
      → EndsBeforeCopy depth writes passes script replies e
  unfolding AmendRunEnds
  plan_ends e refuses planned untouched output asked kept = rw (refuses.2) (
    asked ∙ refuses.0,
    (untouched, kept),
    λ file lines shows script_shows.
        let plan = (planned file lines (shows.0, shows.1, shows.2, shows.4) script_shows).0 in
        let s : ParseState = plan.means.state in (
          s,
          plan.means.accepted,
          names_of_file file (script_lines lines) depth declared skipped plan.whole ks true plan.means plan.origins_are
              (plan.variables s plan.means.accepted) (sym plan.names ∙ refuses.1),
        ),
  )

  -- in the lines
  module _ (planned : IsPlan) where
    -- the replies of the run are those of the lines on the capture of the file, for which they are planned
    replies_of_run : (file lines : List ℕ) → AllShow passes file → script.before ≡ Some lines
        → (written : RunOutcome) × IsAmendRun file lines depth written × (c : Contents) × (silent : ℕ → Bool)
        × IsPlannedOn file skipped depth (script_lines bytes) streamed (initial_machine first depth) c silent
        × (line_replies skipped 1 (initial_machine c depth) (script_lines bytes) ≡ written.replies)
    replies_of_run file lines shows script_shows =
        let both = planned file lines (shows.0, shows.1, shows.2, shows.4) script_shows in
        let plan = both.0 in
        let c : Contents = plan.whole in
        let run = is_run file lines depth c skipped plan.means in (
          run.0,
          run.1,
          c,
          plan.silent,
          record {
            means = plan.means;
            session_is = ap (λ (d : Contents). initial_machine d depth) plan.hollow_is;
            planned = subst (λ (b : List ℕ). ArePlanned c skipped plan.silent 1 (initial_history depth)
                (script_lines b) streamed) (sym both.1) plan.planned;
          },
          (λ i. line_replies skipped 1 (initial_machine c depth) (script_lines (both.1 i)))
              ∙ sym (ap (λ (o : RunOutcome). o.replies) (outcome_is c skipped depth (script_lines lines)))
              ∙ sym run.2,
        )

    -- what stops the lines, on the replies of the run
    stopped_run : (e : AmendRunError) → StopsInLinesPlanned (FailsOnceMore passes.again.before passes.again.has_failed)
        passes.again.before skipped (script_lines bytes) streamed (initial_machine first depth) replies.before
        replies.after e
        → ForAmendRun depth passes script replies None (λ written.
        StopsInPlanned (FailsOnceMore passes.again.before passes.again.has_failed) written.replies replies.before
        replies.after e)
    stopped_run e stops file lines shows script_shows =
        let run = replies_of_run file lines shows script_shows in (
          run.0,
          run.1,
          subst (λ (texts : List (List ℕ)). StopsInPlanned (FailsOnceMore passes.again.before passes.again.has_failed)
              texts replies.before replies.after e) run.5
              (stops file depth run.2 run.3 shows.4 run.4),
        )

    pub lines_end : (e : AmendRunError)
        → EndsInLines passes.again.before passes.again.has_failed skipped depth (script_lines bytes) streamed first
        replies e
        → EndsBeforeCopy depth writes passes script replies e
    unfolding AmendRunEnds
    lines_end e (inl stops) output asked kept =
        subst (λ (f : AmendRunError). AmendRunEnds depth passes script replies output (Err f)) (sym stops.0)
        (stops.1, kept)
    lines_end (errors.Run (run_errors.NoMemory zero)) (inr stops) output asked kept =
        absurd (omega (arith, stops.0))
    lines_end (errors.Run (run_errors.NoMemory (suc before))) (inr stops) output asked kept = (
      kept,
      λ file lines shows script_shows.
          let run = stopped_run (errors.Run (run_errors.NoMemory (suc before))) stops.1 file lines shows script_shows
          in
          let one_less : suc before - 1 ≡ before = omega arith in (
            run.0,
            run.1,
            (
              omega (arith, run.2.1),
              run.2.2,
              subst (λ n. length (concat (take n run.0.replies)) ≤ run.2.2) one_less run.2.3,
              run.2.4,
              run.2.5,
            ),
          ),
    )
    lines_end (errors.Run (run_errors.ReplyFault bytes_taken)) (inr stops) output asked kept = (
      stops.0,
      kept,
      stopped_run (errors.Run (run_errors.ReplyFault bytes_taken)) stops.1,
    )
    lines_end (errors.Run (run_errors.Capture fault)) (inr stops) output asked kept = inr (inl (
      stops.0,
      kept,
      λ file lines shows script_shows.
          let run = stopped_run (errors.Run (run_errors.Capture fault)) stops.1 file lines shows script_shows in
          (run.0, run.1, (run.2.1, run.2.2)),
    ))
    lines_end (errors.Run run_errors.ScriptTooLarge) (inr stops) output asked kept = absurd stops.0
    lines_end (errors.Run run_errors.ScriptReadFault) (inr stops) output asked kept = absurd stops.0
    lines_end (errors.Run (run_errors.Write fault)) (inr stops) output asked kept = absurd stops.0
    lines_end errors.NameOfSkipped (inr stops) output asked kept = absurd stops.0
    lines_end errors.LineRefused (inr stops) output asked kept = absurd stops.0
    lines_end errors.CaptureChanged (inr stops) output asked kept = absurd stops.0

-- ---- errors passed on

-- what holds of one error holds where it is passed on
pub at_error : {A E : Type 0} (r : Result A E) (error : E) (P : E → Type 0) → IsErrAnd r (λ e. e ≡ error) → P error
    → IfErr r P
at_error (Ok v) error P gives holds = tt
at_error (Err e) error P gives holds = rw gives holds

-- a run that an error ended before the copy
pub error_ends : (o : RunOptions) (passes : PassEnds) (script replies out : DeviceEnd) (e : AmendRunError)
    → AmendRunEnds o.depth passes script replies (Some out) (Err e)
    → MarkedRunEnds o passes script replies (Some out) (Err e)
unfolding AmendRunEnds
error_ends o passes script replies out (errors.Run (run_errors.Capture e)) ends = ends
error_ends o passes script replies out (errors.Run run_errors.ScriptTooLarge) ends = ends
error_ends o passes script replies out (errors.Run run_errors.ScriptReadFault) ends = ends
error_ends o passes script replies out (errors.Run (run_errors.NoMemory line)) ends = ends
error_ends o passes script replies out (errors.Run (run_errors.ReplyFault count)) ends = ends
error_ends o passes script replies out (errors.Run (run_errors.Write e)) ends = absurd ends
error_ends o passes script replies out errors.NameOfSkipped ends = ends
error_ends o passes script replies out errors.LineRefused ends = absurd ends
error_ends o passes script replies out errors.CaptureChanged ends = ends

-- a run that an error ended
pub ends_with : (r : Result Summary AmendRunError) (error : AmendRunError) (o : RunOptions) (passes : PassEnds)
    (script replies out : DeviceEnd) → IsErrAnd r (λ e. e ≡ error)
    → MarkedRunEnds o passes script replies (Some out) (Err error)
    → MarkedRunEnds o passes script replies (Some out) r
ends_with (Ok summary) error o passes script replies out gives ends = absurd gives
ends_with (Err e) error o passes script replies out gives ends = rw gives ends

-- a run that a refused line ended
pub unwritten_with : (r : Result Summary AmendRunError) (error : AmendRunError) (o : RunOptions) (passes : PassEnds)
    (script replies out : DeviceEnd) → IsErrAnd r (λ e. e ≡ error) → error ≡ errors.LineRefused
    → MarkedRunEnds o passes script replies (Some out) (Err errors.LineRefused)
    → MarkedRunEnds o passes script replies (Some out) r
unwritten_with (Ok summary) error o passes script replies out gives is ends = absurd gives
unwritten_with (Err e) error o passes script replies out gives is ends = rw (gives ∙ is) ends
