-- What amending a file by a script gives if the file is marked: the project's own.
use Rattle.std.specs.Prelude.{◌≡◌, ◌≢◌, ℕ, false, true, List, Option, Some, None, Result, Ok, Err}
use Rattle.std.specs.List.{concat}
use Rattle.vcd_core.specs.declared.capture.TheConstants.{SIGNAL_LIMIT}
use Rattle.vcd_core.specs.Contents.{Contents}
use Rattle.vcd_core.specs.Devices.{DeviceEnd, HasText, IsUntouched}
use Rattle.vcd_text.specs.Meaning.{FileMeans}
use Rattle.vcd_text.specs.WriteEnds.{TookBefore}
use Rattle.vcd_text.specs.declared.fault.WriteError.{WriteError}
use Rattle.vcd_copy.specs.Pieces.{Piece}
use Rattle.vcd_copy.specs.Marks.{CommentBytes, with_mark, IsMark, with_comment}
use Rattle.vcd_copy.specs.MarkText.{mark_with_edits}
use Rattle.vcd_copy.specs.declared.marking.head.MarkHead.{MarkHead}
use Rattle.vcd_script.specs.declared.running.run_error.RunError.TheVariants as run_errors
use Rattle.vcd_script.specs.declared.running.run_error.Summary.{Summary}
use Rattle.vcd_script.specs.Script.{script_lines}
use Rattle.vcd_script.specs.Run.{RunOutcome, outcome}
use Rattle.vcd_amend_run.specs.declared.running.AmendRunError.{AmendRunError}
use Rattle.vcd_hollow.specs.HollowRun.{last_capture}
use Rattle.vcd_amend.specs.WhatStands.{ItemsStand}
use Rattle.vcd_amend_run.specs.EditedText.{PiecesMean, edited_text, remaining_of_run}
use Rattle.vcd_amend_run.specs.EditedText.{pieces_after_cuts}
use Rattle.vcd_amend_run.specs.AmendRunEnds.{PassEnds, AllShow, IsShortFile, CanBeWritten}
use Rattle.vcd_amend_run.specs.AmendRunEnds.{AmendRunEnds, ForAmendRun}
use Rattle.vcd_amend_run.specs.declared.running.AmendRunError.TheVariants.{Run, LineRefused}
use Rattle.vcd_amend_run.specs.declared.running.RunOptions.{RunOptions}
use Rattle.vcd_amend_run.specs.EditsInForce.{lines_in_force}

-- the mark with these edits, if one is asked for
abbrev pub mark_with : Option MarkHead → (edit_lines : List (List ℕ)) → Option CommentBytes
mark_with None edit_lines = None
mark_with (Some head) edit_lines = Some (mark_with_edits head edit_lines)

-- the same with the lines whose edits are in force after the last line
abbrev pub mark_of_run : Option MarkHead → Contents → (skipped depth : ℕ) → (lines : List (List ℕ))
    → Option CommentBytes
mark_of_run head c skipped depth lines = mark_with head (lines_in_force c skipped depth lines)

-- what is written if the lines of a script are run on what a capture file means, and the file is to
-- have a mark: the replies of the run, and what the lines make of the file with the mark in it
pub record IsMarkedRun (head : Option MarkHead) (file script : List ℕ) (depth : ℕ)
    (written : RunOutcome) : Type 0 where
  pub contents : Contents
  pub skipped : ℕ
  pub pieces : List Piece
  pub tail : List ℕ
  pub means : PiecesMean file pieces tail contents skipped
  pub run : written ≡ record (outcome contents skipped depth (script_lines script)) {
    output = edited_text contents skipped depth (script_lines script)
        (with_mark (mark_of_run head contents skipped depth (script_lines script)) pieces) tail;
  }

-- the text of an accepted file with a mark means the last capture, and has the mark in its header;
-- what is not touched of the file with the mark stands after the cuts
abbrev pub MarkedTextMeansLastCapture : Type 0
MarkedTextMeansLastCapture =
    (file : List ℕ) (pieces : List Piece) (tail : List ℕ) (c : Contents) (skipped depth : ℕ)
    (lines : List (List ℕ)) (mark : CommentBytes) → IsMark mark
    → PiecesMean file pieces tail c skipped →
    let marked : List Piece = with_mark (Some mark) pieces in
    let text : List ℕ = edited_text c skipped depth lines marked tail in
    FileMeans SIGNAL_LIMIT text
    (with_comment mark.words (last_capture c skipped depth lines)) skipped
    × ItemsStand SIGNAL_LIMIT (remaining_of_run c skipped depth lines)
    (last_capture c skipped depth lines).signals (pieces_after_cuts c skipped depth lines marked)
    tail text

-- what is asked of a run, the ends of the passes and of the script, and that of the writer of the
-- replies
module _ (o : RunOptions) (passes : PassEnds) (script replies : DeviceEnd) where
  -- if every pass shows one file, and the script its bytes: holds of what is written with a mark
  abbrev pub ForMarkedRun : (RunOutcome → Type 0) → Type 0
  ForMarkedRun property = (file lines : List ℕ) → AllShow passes file → script.before ≡ Some lines
      → (written : RunOutcome) × IsMarkedRun o.mark file lines o.depth written × property written

  -- all replies are written, and the amended file with the mark, which can be written
  pub record IsWrittenMarked (out : DeviceEnd) (summary : Summary) : Type 0 where
    pub replies_ready : replies.has_failed ≡ false
    pub out_ready : out.has_failed ≡ false
    pub possible : CanBeWritten o.depth passes script replies (Some out)
    pub short : IsShortFile passes
    pub none_refused : o.is_all_or_nothing ≡ true → summary.refused ≡ 0
    pub run : ForMarkedRun (λ written. HasText replies (concat written.replies)
        × HasText out written.output × (summary.refused ≡ written.refused))

  -- all replies are written, with a refused line among them, and so nothing else
  pub record IsNothingWritten (out : DeviceEnd) : Type 0 where
    pub asked : o.is_all_or_nothing ≡ true
    pub untouched : IsUntouched out
    pub run : ForAmendRun o.depth passes script replies (Some out)
        (λ written. HasText replies (concat written.replies) × (written.refused ≢ 0))

  -- all replies are written, and before this fault a counted prefix of some text; if every pass
  -- shows one file, and the script its bytes, a prefix of the amended file with the mark
  pub record IsWrittenInPart (out : DeviceEnd) (e : WriteError) : Type 0 where
    pub some : (text : List ℕ) × TookBefore text out.before out.after out.has_failed e
    pub run : ForMarkedRun (λ written. HasText replies (concat written.replies)
        × TookBefore written.output out.before out.after out.has_failed e)

  -- how amending a file ends: as it ends without options, but for the mark in the output, and if
  -- this can't be written, or a line is refused
  abbrev pub MarkedRunEnds : (output : Option DeviceEnd) → Result Summary AmendRunError → Type 0
  MarkedRunEnds (Some out) (Ok summary) = IsWrittenMarked out summary
  MarkedRunEnds (Some out) (Err (Run (run_errors.Write e))) = IsWrittenInPart out e
  MarkedRunEnds (Some out) (Err LineRefused) = IsNothingWritten out
  MarkedRunEnds output result = AmendRunEnds o.depth passes script replies output result
