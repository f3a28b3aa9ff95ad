-- The file after a run means the last capture, and what is not touched stands in it.
use Rattle.std.proofs.Common.{◌≡◌, ℕ, List, refl, sym, ap, subst, map, IsTrue}
use Rattle.std.specs.Prelude.{count_by}
use Rattle.vcd_core.specs.declared.capture.TheConstants.{SIGNAL_LIMIT}
use Rattle.vcd_core.specs.Contents.{Contents}
use Rattle.vcd_text.specs.Grammar.{ParseState, initial_state, is_skipped, AllowsAll}
use Rattle.vcd_text.specs.Meaning.{meaning}
use Rattle.vcd_copy.specs.Pieces.{Piece, IsCut, state_of_pieces}
use Rattle.vcd_script.specs.Script.{script_lines}
use Rattle.vcd_script.specs.Run.{RunOutcome, outcome, IsRun}
use Rattle.vcd_hollow.specs.HollowRun.{last_edits}
use Rattle.vcd_amend.proofs.retimed.OtherTicks.{pieces_are_retimed}
use Rattle.vcd_edit.specs.declared.edit.Edit.{Edit}
use Rattle.vcd_hollow.specs.Cuts.{tick_before_cuts}
use Rattle.vcd_amend_run.specs.EditedText.{PiecesMean, edited_text, is_cut_out_by, pieces_after_cuts}
use Rattle.vcd_amend_run.specs.AmendRun.{IsAmendRun}
use Rattle.vcd_amend_run.specs.AmendOnBytes.{IsEditedFile}
use Rattle.vcd_amend_run.proofs.laws.EditedFiles.{can, edited_text_is_meant, no_cut_leaves_pieces}
use Rattle.vcd_amend_run.proofs.laws.EditedFiles.{own_state, sound_pieces}
use Rattle.vcd_amend_run.proofs.running.AmendedRun.{cut_is_accepted}

module _ (file : List ℕ) (pieces : List Piece) (tail : List ℕ) (depth : ℕ) (lines : List (List ℕ))
    (cut : IsCut file pieces tail) (allowed : AllowsAll (initial_state SIGNAL_LIMIT) (map (λ p. p.item) pieces))
    (in_body : IsTrue (state_of_pieces SIGNAL_LIMIT pieces).in_body) where
  abbrev s : ParseState
  s = state_of_pieces SIGNAL_LIMIT pieces

  abbrev skipped : ℕ
  skipped = count_by is_skipped s.declared

  abbrev es : List Edit
  es = last_edits (meaning s) skipped depth lines

  means : PiecesMean file pieces tail (meaning s) skipped
  means = record { cut = cut; allowed = allowed; in_body = in_body; means = refl; left_out = refl }

  is_edited : IsEditedFile file (meaning s) skipped depth lines
      (edited_text (meaning s) skipped depth lines pieces tail)
  is_edited =
      let it = edited_text_is_meant file pieces tail (meaning s) skipped depth lines means in
      record {
        read_again = it.0;
        pieces = pieces;
        tail = tail;
        cut = cut;
        after = pieces_after_cuts (meaning s) skipped depth lines pieces;
        retimed = pieces_are_retimed (is_cut_out_by es) (tick_before_cuts es) SIGNAL_LIMIT file pieces tail
            (can s pieces tail depth lines (sound_pieces file pieces tail (meaning s) skipped means)
            (own_state file pieces tail (meaning s) skipped means));
        uncut = no_cut_leaves_pieces es SIGNAL_LIMIT pieces;
        stands = it.1;
      }

-- a run that amends a file is the run on what the file means
pub run_of_amend_run : (file script : List ℕ) (depth : ℕ) (written : RunOutcome) → IsAmendRun file script depth written
    → (ran : RunOutcome) × (run : IsRun file script depth ran) × (written.replies ≡ ran.replies)
    × (written.refused ≡ ran.refused)
    × IsEditedFile file run.contents run.skipped depth (script_lines script) written.output
run_of_amend_run file script depth written amended =
    let lines : List (List ℕ) = script_lines script in
    let c : Contents = amended.contents in
    let m : PiecesMean file amended.pieces amended.tail c amended.skipped = amended.means in
    let s : ParseState = state_of_pieces SIGNAL_LIMIT amended.pieces in
    let Edited : Contents → ℕ → Type 0 = λ d n.
    IsEditedFile file d n depth lines (edited_text d n depth lines amended.pieces amended.tail) in
    let edited : Edited c amended.skipped =
    subst (λ (d : Contents). Edited d amended.skipped) (sym m.means)
    (subst (Edited (meaning s)) (sym m.left_out)
    (is_edited file amended.pieces amended.tail depth lines m.cut m.allowed m.in_body)) in (
      outcome c amended.skipped depth lines,
      record {
        contents = c;
        skipped = amended.skipped;
        means = record {
          state = s;
          accepted = cut_is_accepted file amended.pieces amended.tail m.cut m.allowed m.in_body;
          means = m.means;
          left_out = m.left_out;
        };
        run = refl;
      },
      ap (λ (o : RunOutcome). o.replies) amended.run,
      ap (λ (o : RunOutcome). o.refused) amended.run,
      subst (IsEditedFile file c amended.skipped depth lines) (sym (ap (λ (o : RunOutcome). o.output) amended.run))
          edited,
    )
