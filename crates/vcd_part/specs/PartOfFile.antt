-- The part of a file, for those who use it: the third headline. The project's own.
use Rattle.std.specs.Prelude.{ℕ, ◌&&◌, List, count_by}
use Rattle.vcd_text.specs.Grammar.{ParseState, is_skipped}
use Rattle.vcd_text.specs.Meaning.{FileMeans, meaning}
use Rattle.vcd_copy.specs.Pieces.{Piece, IsCut, state_of_pieces}
use Rattle.vcd_text.specs.declared.reading.TheConstants.{VARIABLE_LIMIT}
use Rattle.vcd_text.specs.declared.reading.choice.TickRange.{TickRange}
use Rattle.vcd_part.specs.declared.request.Request.{Request}
use Rattle.vcd_part.specs.Requests.{keeps}
use Rattle.vcd_part.specs.PartPieces.{comment_words, kept_count, all_count}
use Rattle.vcd_part.specs.PartLaws.{HasPart, part_with_comment}
use Rattle.vcd_part.specs.StandsInPart.{StandInPart}

-- the file is accepted, and this text its part: read again, it means the part of the capture that
-- was asked for, with the skipped variables that are kept; its pieces are those that stand
pub record IsPartOfFile (r : Request) (file text : List ℕ) : Type 0 where
  pub pieces : List Piece
  pub tail : List ℕ
  pub window : TickRange
  pub has : HasPart r VARIABLE_LIMIT file pieces tail window
  pub read_again :
      let s : ParseState = state_of_pieces VARIABLE_LIMIT pieces in
      FileMeans VARIABLE_LIMIT text (part_with_comment r window
      (comment_words window (kept_count r s.declared) (all_count s.declared)) (meaning s))
      (count_by (λ d. keeps r d && is_skipped d) s.declared)
  pub part : List Piece
  pub cut : IsCut text part tail
  pub stand : StandInPart r window (state_of_pieces VARIABLE_LIMIT pieces).declared pieces part
