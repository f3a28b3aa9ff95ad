-- A run with a mark: its lines, and what is written.
use Rattle.std.proofs.Common.{◌≡◌, ◌∙◌, ◌≤◌, ℕ, Bool, true, List, Option, Some, None, refl, ap, subst, length}
use Rattle.std.specs.Prelude.{IfSome, count_by}
use Rattle.std.specs.List.{concat}
use Rattle.vcd_core.specs.declared.capture.TheConstants.{SIGNAL_LIMIT}
use Rattle.vcd_core.specs.Contents.{Contents}
use Rattle.vcd_core.specs.Outline.{outline}
use Rattle.vcd_text.specs.Grammar.{ParseState, VariableDeclaration, initial_state, is_skipped}
use Rattle.vcd_text.specs.Meaning.{meaning, FileMeans}
use Rattle.vcd_text.specs.declared.reading.TheConstants.{LONG_FILE_LIMIT}
use Rattle.vcd_text.proofs.shared.ResultIsUnique.{one_meaning}
use Rattle.vcd_edit.specs.declared.edit.Edit.{Edit}
use Rattle.vcd_hollow.specs.HollowRun.{last_edits}
use Rattle.vcd_script.specs.Script.{script_lines}
use Rattle.vcd_script.specs.Run.{RunOutcome, outcome}
use Rattle.vcd_copy.specs.Pieces.{Piece, state_of_pieces}
use Rattle.vcd_copy.specs.Marks.{CommentBytes, IsMark, with_mark}
use Rattle.vcd_copy.specs.declared.marking.head.MarkHead.{MarkHead}
use Rattle.vcd_copy.proofs.marks.MarkWords.{every_mark_is_comment}
use Rattle.vcd_amend.specs.Amendment.{Amendment}
use Rattle.vcd_amend.specs.AmendedText.{amended_text}
use Rattle.vcd_amend.specs.RetimedCopy.{IsAmendedAfterCuts, is_cut_by}
use Rattle.vcd_amend.specs.RetimedLaws.{pieces_after}
use Rattle.vcd_amend.specs.KnownSignals.{IsAmendmentFor}
use Rattle.vcd_amend.specs.declared.cut_ticks.CutTicks.{CutTicks}
use Rattle.vcd_amend_run.specs.FileParts.{HasOutline}
use Rattle.vcd_amend_run.specs.EditsInForce.{lines_in_force}
use Rattle.vcd_amend_run.specs.EditedText.{PiecesMean, edited_text, is_cut_out_by}
use Rattle.vcd_amend_run.specs.MarkedRun.{mark_with, mark_of_run, IsMarkedRun}
use Rattle.vcd_amend_run.specs.inside.CaptureAfterCuts.{capture_after_cuts}
use Rattle.vcd_amend_run.specs.inside.Running.{IsEdited, HasEditLines}
use Rattle.vcd_amend_run.proofs.dry_running.EditLines.{lines_of_outline}
use Rattle.vcd_amend_run.proofs.laws.EditedFiles.{accepted_file_has_pieces, HaveStateBut, marked_state}
use Rattle.vcd_amend_run.proofs.running.AmendedRun.{cut_is_accepted, amended_text_is_edited}
use Rattle.vcd_amend_run.proofs.running.CarriedOut.{known_for_run}
use Rattle.vcd_amend_run.proofs.running.CutsInForce.{cut_by_is_cut_out}
use Rattle.vcd_amend_run.proofs.running.PlannedRun.{outline_twice}

-- the lines that were found on the outline are those of the file
pub lines_of_plan : (file lines script : List ℕ) (depth skipped : ℕ) (o : Contents) (edits : List (List ℕ))
    (coming script_coming : Option (List ℕ))
    → IfSome coming (λ f. (length f ≤ LONG_FILE_LIMIT) × HasOutline SIGNAL_LIMIT f o skipped)
    → IfSome script_coming (λ s. script ≡ s)
    → edits ≡ lines_in_force o skipped depth (script_lines script)
    → coming ≡ Some file → script_coming ≡ Some lines → HasEditLines file lines depth edits
lines_of_plan file lines script depth skipped o edits coming script_coming outlined read found shows script_shows c n
    means =
    let is : script ≡ lines = subst (λ s. IfSome s (λ t. script ≡ t)) script_shows read in
    let here : HasOutline SIGNAL_LIMIT file o skipped =
    (subst (λ s. IfSome s (λ f. (length f ≤ LONG_FILE_LIMIT) × HasOutline SIGNAL_LIMIT f o skipped)) shows outlined).1
    in
    let one = one_meaning SIGNAL_LIMIT file here.whole c skipped n here.means means in
    found
    ∙ ap (λ (s : List ℕ). lines_in_force o skipped depth (script_lines s)) is
    ∙ lines_of_outline o here.whole skipped depth (script_lines lines) (ap outline here.is ∙ outline_twice here.whole)
    ∙ (λ i. lines_in_force (one.0 i) (one.1 i) depth (script_lines lines))

-- a mark that is asked for is a comment
mark_is : (head : Option MarkHead) (edits : List (List ℕ)) → IfSome (mark_with head edits) IsMark
mark_is None edits = tt
mark_is (Some head) edits = every_mark_is_comment head edits

module _ (file lines : List ℕ) (depth : ℕ) (took : List ℕ → Type 0) (declared : List VariableDeclaration)
    (first : Contents) (ks : List ℕ) (cs : List CutTicks) (last : Contents) (refused : ℕ) (head : Option MarkHead)
    (edits : List (List ℕ)) (edited : IsEdited file lines depth true took declared first ks cs last refused)
    (edits_are : HasEditLines file lines depth edits) where
  abbrev c : Contents
  c = edited.whole

  abbrev all : List (List ℕ)
  all = script_lines lines

  abbrev es : List Edit
  es = last_edits c edited.skipped depth all

  -- the file after the run, with these pieces
  abbrev made : Option CommentBytes → List Piece → (tail : List ℕ) → List ℕ
  made mark pieces tail = edited_text c edited.skipped depth all (with_mark mark pieces) tail

  abbrev marked_by_run : (pieces : List Piece) → (tail : List ℕ) → List ℕ
  marked_by_run pieces tail = made (mark_of_run head c edited.skipped depth all) pieces tail

  run_of : (pieces : List Piece) (tail : List ℕ) (is : PiecesMean file pieces tail c edited.skipped)
      → IsMarkedRun head file lines depth
      (record (outcome c edited.skipped depth all) { output = marked_by_run pieces tail })
  run_of pieces tail is =
      record { contents = c; skipped = edited.skipped; pieces = pieces; tail = tail; means = is; run = refl }

  -- there is a run with the mark, whatever the amended file is
  pub marked_run : (written : RunOutcome) × IsMarkedRun head file lines depth written × took (concat written.replies)
  marked_run =
      let (pieces, tail, is) = accepted_file_has_pieces file c edited.skipped edited.means in (
        record (outcome c edited.skipped depth all) { output = marked_by_run pieces tail },
        run_of pieces tail is,
        edited.replies,
      )

  -- the amended text of the file with the mark is that of the run
  pub marked_is_written : (text : List ℕ) (a : Amendment)
      → IsAmendmentFor declared (capture_after_cuts first cs).signals ks last.signals a
      → IsAmendedAfterCuts SIGNAL_LIMIT (mark_with head edits) (is_cut_by cs) a file text
      → (written : RunOutcome) × IsMarkedRun head file lines depth written × took (concat written.replies)
      × (text ≡ written.output) × (refused ≡ written.refused)
  marked_is_written text a is_for amended =
      let mark : Option CommentBytes = mark_with head edits in
      let pieces : List Piece = amended.pieces in
      let marked : List Piece = with_mark mark pieces in
      let s : ParseState = state_of_pieces SIGNAL_LIMIT pieces in
      let accepted = cut_is_accepted file pieces amended.tail amended.cut amended.allowed amended.in_body in
      let again : FileMeans SIGNAL_LIMIT file (meaning s) (count_by is_skipped s.declared) =
      record { state = s; accepted = accepted; means = refl; left_out = refl } in
      let one = one_meaning SIGNAL_LIMIT file c (meaning s) edited.skipped (count_by is_skipped s.declared) edited.means
      again in
      let is : PiecesMean file pieces amended.tail c edited.skipped =
      record {
        cut = amended.cut;
        allowed = amended.allowed;
        in_body = amended.in_body;
        means = one.0;
        left_out = one.1;
      } in
      let but : HaveStateBut s marked amended.tail =
      marked_state mark file pieces amended.tail c edited.skipped (mark_is head edits) is in
      let known = known_for_run file lines depth true took declared first ks cs last refused a pieces marked
      amended.tail edited is_for is but in
      let cut_out : is_cut_by cs ≡ is_cut_out_by es = ap is_cut_by edited.cuts_are ∙ cut_by_is_cut_out es in (
        record (outcome c edited.skipped depth all) { output = marked_by_run pieces amended.tail },
        run_of pieces amended.tail is,
        edited.replies,
        amended.is
            ∙ ap (λ (f : ℕ → Bool). amended_text a true (initial_state SIGNAL_LIMIT)
            (pieces_after f SIGNAL_LIMIT marked) amended.tail) cut_out
            ∙ amended_text_is_edited file pieces marked amended.tail c edited.skipped depth all is but edited.silent a
            edited.same known
            ∙ ap (λ (ls : List (List ℕ)). made (mark_with head ls) pieces amended.tail)
            (edits_are c edited.skipped edited.means),
        edited.count,
      )
