-- The remarks of a run are those on the lines on the capture that the plan has, and then those on the output.
use Rattle.std.proofs.Common.{◌≡◌, ◌≤◌, ◌==◌, ◌+◌, ℕ, suc, ◌∙◌, Bool, not, List, [], ◌∷◌, Option, Some, subst}
use Rattle.std.proofs.Common.{length, take, refl, sym, ap, inl, inr, arith}
use Rattle.std.specs.Io.KnownBytes.{Appends}
use Rattle.std.proofs.lemmas.List.{append-nil, length-append}
use Rattle.std.proofs.KnownBytes.{Appends-nil, Appends-trans}
use Rattle.vcd_core.specs.declared.capture.TheConstants.{SIGNAL_LIMIT}
use Rattle.vcd_core.specs.Contents.{Contents}
use Rattle.vcd_core.specs.Devices.{DeviceEnd, HasPrefix, HasText}
use Rattle.vcd_text.specs.Grammar.{VariableDeclaration}
use Rattle.vcd_text.specs.Meaning.{FileMeans}
use Rattle.vcd_copy.specs.Pieces.{Piece, state_of_pieces}
use Rattle.vcd_text.proofs.shared.ResultIsUnique.{one_meaning}
use Rattle.vcd_edit.specs.declared.edit.Edit.{Edit}
use Rattle.vcd_edit.specs.declared.edit.Edit.TheVariants.{Cut}
use Rattle.vcd_hollow.specs.Cuts.{cuts}
use Rattle.vcd_journal.specs.History.{initial_history}
use Rattle.vcd_journal.specs.Machine.{initial_machine}
use Rattle.vcd_amend_run.specs.declared.streamed_line.StreamedLine.{StreamedLine}
use Rattle.vcd_amend_run.specs.inside.PlannedLines.{IsPlannedOn}
use Rattle.vcd_amend_run.specs.inside.StreamedLines.{ArePlanned}
use Rattle.vcd_hollow.specs.HollowRun.{last_edits}
use Rattle.vcd_remarks.specs.RemarksOfRun.{remarks_of_run}
use Rattle.vcd_script.specs.Script.{script_lines}
use Rattle.vcd_remarks.specs.SessionRemarks.{session_remarks}
use Rattle.vcd_remarks.proofs.shared.SessionRemarks.{session_remarks_are_run}
use Rattle.vcd_amend.specs.declared.cut_ticks.CutTicks.{CutTicks}
use Rattle.vcd_amend.specs.Amendment.{Amendment}
use Rattle.vcd_amend_run.specs.EditedText.{PiecesMean, amendment_of_run}
use Rattle.vcd_amend.specs.KnownSignals.{IsAmendmentFor}
use Rattle.vcd_amend_run.specs.OutputRemarks.{output_remarks, output_remarks_of_run}
use Rattle.vcd_amend_run.specs.inside.CaptureAfterCuts.{capture_after_cuts}
use Rattle.vcd_amend_run.specs.inside.dry_running.OriginHistory.{ticks_of_cuts}
use Rattle.vcd_amend_run.specs.AmendRunEnds.{PassEnds, AllShow}
use Rattle.vcd_amend_run.specs.TakenRemarks.{HasPrefixes, TakesRemarks}
use Rattle.vcd_amend_run.specs.inside.Running.{IsPlanned, IsEdited, TakesLineRemarks, TakesOutputRemarks}
use Rattle.vcd_amend_run.proofs.laws.EditedFiles.{own_state}
use Rattle.vcd_amend_run.proofs.running.AmendedRun.{cut_is_accepted, known_is_of_run}
use Rattle.vcd_amend_run.proofs.running.CarriedOut.{known_for_run}

-- before the first remark none is taken
pub none_taken : (depth : ℕ) (passes : PassEnds) (script : DeviceEnd) (taken : Option (List ℕ)) (failed : Bool)
    → TakesLineRemarks depth passes script (record { before = taken; after = taken; has_failed = failed })
unfolding TakesLineRemarks
none_taken depth passes script taken failed file lines shows script_shows c skipped means =
    (0, (omega arith, Appends-nil taken))

pub remarks_of_plan : (depth : ℕ) (passes : PassEnds) (script remarks : DeviceEnd)
    (declared : List VariableDeclaration) (skipped : ℕ) (first : Contents) (streamed : List StreamedLine)
    (ks : List ℕ) (cs : List CutTicks) (takes : Bool) (bytes : List ℕ)
    → ((file lines : List ℕ) → (passes.declarations.before ≡ Some file) × (passes.outline.before ≡ Some file)
    × (passes.changes.before ≡ Some file) × (passes.again.before ≡ Some file) → script.before ≡ Some lines
    → IsPlanned file lines depth declared skipped first streamed ks cs takes × (bytes ≡ lines))
    → ((file : List ℕ) (c : Contents) (silent : ℕ → Bool) → passes.again.before ≡ Some file
    → IsPlannedOn file skipped depth (script_lines bytes) streamed (initial_machine first depth) c silent
    → (count : ℕ) × HasPrefix remarks count (session_remarks 1 (initial_machine c depth) (script_lines bytes)))
    → TakesLineRemarks depth passes script remarks
unfolding TakesLineRemarks
remarks_of_plan depth passes script remarks declared skipped first streamed ks cs takes bytes planned took file lines
    shows script_shows c count means =
    let both = planned file lines (shows.0, shows.1, shows.2, shows.4) script_shows in
    let plan = both.0 in
    let one = one_meaning SIGNAL_LIMIT file plan.whole c skipped count plan.means means in
    let all : session_remarks 1 (initial_machine plan.whole depth) (script_lines bytes)
    ≡ remarks_of_run c count depth (script_lines lines) =
    session_remarks_are_run plan.whole skipped depth (script_lines bytes)
    ∙ (λ i. remarks_of_run (one.0 i) (one.1 i) depth (script_lines (both.1 i))) in
    let on : IsPlannedOn file skipped depth (script_lines bytes) streamed (initial_machine first depth) plan.whole
    plan.silent =
    record {
      means = plan.means;
      session_is = ap (λ (d : Contents). initial_machine d depth) plan.hollow_is;
      planned = subst (λ (b : List ℕ). ArePlanned plan.whole skipped plan.silent 1 (initial_history depth)
          (script_lines b) streamed) (sym both.1) plan.planned;
    } in
    subst (λ (text : List ℕ). (n : ℕ) × HasPrefix remarks n text) all
    (took file plan.whole plan.silent shows.4 on)

-- ---- the output

-- a file of pieces that mean a capture means it
file_means : (file : List ℕ) (pieces : List Piece) (tail : List ℕ) (c : Contents) (skipped : ℕ)
    → PiecesMean file pieces tail c skipped → FileMeans SIGNAL_LIMIT file c skipped
file_means file pieces tail c skipped is = record {
  state = state_of_pieces SIGNAL_LIMIT pieces;
  accepted = cut_is_accepted file pieces tail is.cut is.allowed is.in_body;
  means = is.means;
  left_out = is.left_out;
}

-- the remarks on the lines alone, where a run ends before its output
pub line_remarks_alone : (depth : ℕ) (passes : PassEnds) (script remarks : DeviceEnd)
    → TakesLineRemarks depth passes script remarks → TakesRemarks depth passes script remarks
unfolding TakesRemarks TakesLineRemarks
line_remarks_alone depth passes script remarks takes file lines shows script_shows c skipped pieces tail is =
    let took = takes file lines shows script_shows c skipped (file_means file pieces tail c skipped is) in
    let text : List ℕ = remarks_of_run c skipped depth (script_lines lines) in
    (took.0, 0, took.1.0, omega arith, subst (HasText remarks) (sym (append-nil (take took.0 text))) took.1.1)

-- there are as many ticks of cuts as cuts
cut_counts : (es : List Edit) → length (ticks_of_cuts es) ≡ length (cuts es)
unfolding ticks_of_cuts cuts
cut_counts [] = refl
cut_counts (Cut from to ∷ es) = length-append (ticks_of_cuts es) _ ∙ sum_of (cut_counts es)
  where
    sum_of : length (ticks_of_cuts es) ≡ length (cuts es) → length (ticks_of_cuts es) + 1 ≡ suc (length (cuts es))
    sum_of same = omega (arith, same)
cut_counts (e ∷ es) = cut_counts es

module _ (file lines : List ℕ) (depth : ℕ) (writes : Bool) (took : List ℕ → Type 0)
    (declared : List VariableDeclaration) (first : Contents) (ks : List ℕ) (cs : List CutTicks) (last : Contents)
    (refused : ℕ) (edited : IsEdited file lines depth writes took declared first ks cs last refused) where
  -- the remarks by an amendment that is known from the captures are those of the run
  output_remarks_are : (a : Amendment) (c : Contents) (skipped : ℕ) (pieces : List Piece) (tail : List ℕ)
      → IsAmendmentFor declared (capture_after_cuts first cs).signals ks last.signals a
      → PiecesMean file pieces tail c skipped
      → output_remarks a declared (not (length cs == 0))
      ≡ output_remarks_of_run c skipped depth (script_lines lines) pieces
  output_remarks_are a c skipped pieces tail is_for is =
      let all : List (List ℕ) = script_lines lines in
      let whole : Contents = edited.whole in
      let one = one_meaning SIGNAL_LIMIT file c whole skipped edited.skipped
      (file_means file pieces tail c skipped is) edited.means in
      let here : PiecesMean file pieces tail whole edited.skipped =
      subst (λ n. PiecesMean file pieces tail whole n) one.1
      (subst (λ (d : Contents). PiecesMean file pieces tail d skipped) one.0 is) in
      let own = own_state file pieces tail whole edited.skipped here in
      let known = known_for_run file lines depth writes took declared first ks cs last refused a pieces pieces tail
      edited is_for here own in
      let amendment : a ≡ amendment_of_run whole edited.skipped depth all pieces =
      known_is_of_run file pieces pieces tail whole edited.skipped depth all here own edited.silent a edited.same
      known in
      let variables : declared ≡ (state_of_pieces SIGNAL_LIMIT pieces).declared =
      edited.variables (state_of_pieces SIGNAL_LIMIT pieces)
      (cut_is_accepted file pieces tail is.cut is.allowed is.in_body) in
      let count : length cs ≡ length (cuts (last_edits whole edited.skipped depth all)) =
      ap (λ (l : List CutTicks). length l) edited.cuts_are ∙ cut_counts (last_edits whole edited.skipped depth all) in
      (λ i. output_remarks (amendment i) (variables i) (not (count i == 0)))
      ∙ sym (λ i. output_remarks_of_run (one.0 i) (one.1 i) depth all pieces)

-- the remarks on the lines, and then those on the output, while the capture is shown by a later pass
pub with_output_remarks : (depth : ℕ) (earlier later : PassEnds) (script : DeviceEnd)
    (before between after : Option (List ℕ)) (failed_between failed writes : Bool) (took : List ℕ → Type 0)
    (declared : List VariableDeclaration) (first : Contents) (ks : List ℕ) (cs : List CutTicks) (last : Contents)
    (refused : ℕ)
    → TakesLineRemarks depth earlier script
    (record { before = before; after = between; has_failed = failed_between })
    → ((file : List ℕ) → AllShow later file → AllShow earlier file)
    → ((file lines : List ℕ) → (earlier.declarations.before ≡ Some file) × (earlier.outline.before ≡ Some file)
    × (earlier.changes.before ≡ Some file) × (earlier.again.before ≡ Some file) → script.before ≡ Some lines
    → IsEdited file lines depth writes took declared first ks cs last refused)
    → TakesOutputRemarks declared first ks cs last
    (record { before = between; after = after; has_failed = failed })
    → TakesRemarks depth later script (record { before = before; after = after; has_failed = failed })
unfolding TakesRemarks TakesLineRemarks
with_output_remarks depth earlier later script before between after failed_between failed writes took declared first
    ks cs last refused takes shows edited output file lines shown script_shows c skipped pieces tail is =
    let all : List (List ℕ) = script_lines lines in
    let seen : AllShow earlier file = shows file shown in
    let text : List ℕ = remarks_of_run c skipped depth all in
    let more : List ℕ = output_remarks_of_run c skipped depth all pieces in
    let took_first = takes file lines seen script_shows c skipped (file_means file pieces tail c skipped is) in
    let joined : (n : ℕ) → n ≤ length more → Appends between after (take n more)
    → HasPrefixes (record { before = before; after = after; has_failed = failed }) text more =
    λ n few then. (
      took_first.0,
      n,
      took_first.1.0,
      few,
      Appends-trans before between after (take took_first.0 text) (take n more) took_first.1.1 then,
    ) in
    elim output [
      | inl none ↦ joined 0 (omega arith) none
      | inr given ↦
          let known = edited file lines (seen.0, seen.1, seen.2, seen.4) script_shows in
          let same : output_remarks given.0 declared (not (length cs == 0)) ≡ more =
          output_remarks_are file lines depth writes took declared first ks cs last refused known given.0 c skipped
          pieces tail given.1 is in
          joined given.2 (subst (λ (l : List ℕ). given.2 ≤ length l) same given.3.0)
          (subst (λ (l : List ℕ). Appends between after (take given.2 l)) same given.3.1)
    ]
