-- The bytes of a file on which the edits of a run are made in place. The project's own.
use Rattle.std.specs.Prelude.{◌≡◌, ℕ, Bool, true, false, List, [], ◌∷◌, map, length}
use Rattle.std.specs.Prelude.{count_by, IsTrue, Option}
use Rattle.vcd_core.specs.declared.capture.TheConstants.{SIGNAL_LIMIT}
use Rattle.vcd_core.specs.Contents.{Contents, SignalContents}
use Rattle.vcd_core.specs.Sound.{IsSound}
use Rattle.vcd_text.specs.Grammar.{initial_state, AllowsAll, is_skipped}
use Rattle.vcd_text.specs.Meaning.{meaning, FileMeans}
use Rattle.vcd_copy.specs.Pieces.{Piece, IsCut, state_of_pieces}
use Rattle.vcd_amend.specs.Amendment.{Amendment}
use Rattle.vcd_amend.specs.AmendedText.{amended_text}
use Rattle.vcd_amend.specs.GivenCodes.{amendment_for}
use Rattle.vcd_amend.specs.WhatStands.{ItemsStand}
use Rattle.vcd_amend.specs.Retimed.{new_tick, AreOldTicks, retimed_contents}
use Rattle.vcd_amend.specs.RetimedLaws.{is_in_cut, is_in_either, pieces_after}
use Rattle.vcd_edit.specs.declared.edit.Edit.{Edit}
use Rattle.vcd_edit.specs.declared.edit.Edit.TheVariants.{Cut}
use Rattle.vcd_journal.specs.History.{replay}
use Rattle.vcd_hollow.specs.Cuts.{cuts, tick_before_cuts, CutsFit}
use Rattle.vcd_hollow.specs.HollowRun.{last_edits, last_capture}
use Rattle.vcd_amend_run.specs.AmendedRun.{signals_remaining, signals_derived}

-- whether one of these edits cuts out a tick of the capture before them, the last one made first
unfoldable pub is_cut_out_by : List Edit → ℕ → Bool
is_cut_out_by [] t = false
is_cut_out_by (Cut from to ∷ es) t = is_in_either (is_cut_out_by es) (is_in_cut from to) t
is_cut_out_by (e ∷ es) t = is_cut_out_by es t

-- lines on the capture that a file means, from an empty history of this depth on
module _ (c : Contents) (skipped depth : ℕ) (lines : List (List ℕ)) where
  -- what is left of each kept variable of the file after the last line, or none
  abbrev pub remaining_of_run : List (Option SignalContents)
  remaining_of_run = signals_remaining (length c.signals) (last_edits c skipped depth lines)
      (last_capture c skipped depth lines)

  -- the signals that are derived then
  abbrev pub derived_of_run : List SignalContents
  derived_of_run = signals_derived (length c.signals) (last_edits c skipped depth lines)
      (last_capture c skipped depth lines)

  -- the pieces of the file after the cuts that are in force then
  abbrev pub pieces_after_cuts : List Piece → List Piece
  pieces_after_cuts pieces =
      pieces_after (is_cut_out_by (last_edits c skipped depth lines)) SIGNAL_LIMIT pieces

  -- what is done to these for the last capture
  abbrev pub amendment_of_run : List Piece → Amendment
  amendment_of_run pieces = amendment_for (state_of_pieces SIGNAL_LIMIT (pieces_after_cuts pieces))
      remaining_of_run derived_of_run

  -- the bytes of the file after the run, if it is these pieces and this white space at its end
  abbrev pub edited_text : (pieces : List Piece) → (tail : List ℕ) → List ℕ
  edited_text pieces tail = amended_text (amendment_of_run pieces) true
      (initial_state SIGNAL_LIMIT) (pieces_after_cuts pieces) tail

-- ---- the laws

-- the ticks of a capture that cuts leave, the end among them, and their new ticks
abbrev pub CutsInForceLeaveTicks : Type 0
CutsInForceLeaveTicks =
    (c : Contents) (es : List Edit) → CutsFit c es
    → AreOldTicks (is_cut_out_by es) (tick_before_cuts es) × (is_cut_out_by es c.end ≡ false)
    × (new_tick (is_cut_out_by es) c.end ≡ (replay c es).end)

-- a file after the cuts among edits means what these make of the capture
abbrev pub RetimedCaptureIsReplayOfCuts : Type 0
RetimedCaptureIsReplayOfCuts =
    (c : Contents) (es : List Edit) → IsSound c → CutsFit c es
    → retimed_contents (is_cut_out_by es) (tick_before_cuts es) c ≡ replay c (cuts es)

-- an accepted file of these pieces means a capture, with so many variables skipped
pub record PiecesMean (file : List ℕ) (pieces : List Piece) (tail : List ℕ) (c : Contents)
    (skipped : ℕ) : Type 0 where
  pub cut : IsCut file pieces tail
  pub allowed : AllowsAll (initial_state SIGNAL_LIMIT) (map (λ p. p.item) pieces)
  pub in_body : IsTrue (state_of_pieces SIGNAL_LIMIT pieces).in_body
  pub means : c ≡ meaning (state_of_pieces SIGNAL_LIMIT pieces)
  pub left_out : skipped ≡ count_by is_skipped (state_of_pieces SIGNAL_LIMIT pieces).declared

-- every accepted file has such pieces
abbrev pub AcceptedFileHasPieces : Type 0
AcceptedFileHasPieces =
    (file : List ℕ) (c : Contents) (skipped : ℕ) → FileMeans SIGNAL_LIMIT file c skipped
    → (pieces : List Piece) × (tail : List ℕ) × PiecesMean file pieces tail c skipped

-- the text of an accepted file after a run means the last capture, with as many variables skipped;
-- what is not touched of the file after the cuts stands
abbrev pub EditedTextMeansLastCapture : Type 0
EditedTextMeansLastCapture =
    (file : List ℕ) (pieces : List Piece) (tail : List ℕ) (c : Contents) (skipped depth : ℕ)
    (lines : List (List ℕ)) → PiecesMean file pieces tail c skipped →
    let text : List ℕ = edited_text c skipped depth lines pieces tail in
    FileMeans SIGNAL_LIMIT text (last_capture c skipped depth lines) skipped
    × ItemsStand SIGNAL_LIMIT (remaining_of_run c skipped depth lines)
    (last_capture c skipped depth lines).signals (pieces_after_cuts c skipped depth lines pieces)
    tail text

-- without a cut in force all pieces stay
abbrev pub NoCutLeavesPieces : Type 0
NoCutLeavesPieces =
    (es : List Edit) (limit : ℕ) (pieces : List Piece) → cuts es ≡ []
    → pieces_after (is_cut_out_by es) limit pieces ≡ pieces
