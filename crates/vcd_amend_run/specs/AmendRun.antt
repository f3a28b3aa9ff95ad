-- What amending a file by a script gives: the project's own.
use Rattle.std.specs.Prelude.{◌≡◌, ℕ, List}
use Rattle.vcd_core.specs.Contents.{Contents}
use Rattle.vcd_copy.specs.Pieces.{Piece}
use Rattle.vcd_script.specs.Script.{script_lines}
use Rattle.vcd_script.specs.Run.{RunOutcome, outcome}
use Rattle.vcd_amend_run.specs.EditedText.{PiecesMean, edited_text}

-- what is written if the lines of a script are run on what a capture file means: the replies of the
-- run, and the file after it, whose other bytes stand
pub record IsAmendRun (file script : List ℕ) (depth : ℕ) (written : RunOutcome) : Type 0 where
  pub contents : Contents
  pub skipped : ℕ
  pub pieces : List Piece
  pub tail : List ℕ
  pub means : PiecesMean file pieces tail contents skipped
  pub run : written ≡ record (outcome contents skipped depth (script_lines script)) {
    output = edited_text contents skipped depth (script_lines script) pieces tail;
  }
