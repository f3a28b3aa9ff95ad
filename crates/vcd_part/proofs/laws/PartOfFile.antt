-- The part that is written is one for those who use it.
use Rattle.std.proofs.Common.{ℕ, List, sym, subst, ◌&&◌}
use Rattle.std.specs.Prelude.{count_by}
use Rattle.vcd_text.specs.Grammar.{is_skipped}
use Rattle.vcd_text.specs.Meaning.{FileMeans, meaning}
use Rattle.vcd_text.specs.declared.reading.TheConstants.{VARIABLE_LIMIT}
use Rattle.vcd_copy.specs.Pieces.{IsCut, state_of_pieces}
use Rattle.vcd_part.specs.declared.request.Request.{Request}
use Rattle.vcd_part.specs.declared.written_part.WrittenPart.{WrittenPart}
use Rattle.vcd_part.specs.Requests.{keeps}
use Rattle.vcd_part.specs.PartPieces.{part_pieces, comment_words, kept_count, all_count}
use Rattle.vcd_part.specs.PartLaws.{part_with_comment}
use Rattle.vcd_part.specs.PartEnds.{IsPart}
use Rattle.vcd_part.specs.PartOfFile.{IsPartOfFile}
use Rattle.vcd_part.proofs.laws.PartIsMeant.{part_means_part}
use Rattle.vcd_part.proofs.laws.standing.StandingPieces.{part_stands}
use Rattle.vcd_part.proofs.laws.text.TextOfPart.{part_is_cut}

pub part_of_file : (r : Request) (file text : List ℕ) (written : WrittenPart) → IsPart r file text written
    → IsPartOfFile r file text
part_of_file r file text written is =
    let s = state_of_pieces VARIABLE_LIMIT is.pieces in
    record {
      pieces = is.pieces;
      tail = is.tail;
      window = is.ticks;
      has = is.part;
      read_again = subst (λ (t : List ℕ). FileMeans VARIABLE_LIMIT t (part_with_comment r is.ticks
          (comment_words is.ticks (kept_count r s.declared) (all_count s.declared)) (meaning s))
          (count_by (λ d. keeps r d && is_skipped d) s.declared)) (sym is.is)
          (part_means_part r VARIABLE_LIMIT file is.pieces is.tail is.ticks is.part);
      part = part_pieces r is.pieces;
      cut = subst (λ (t : List ℕ). IsCut t (part_pieces r is.pieces) is.tail) (sym is.is)
          (part_is_cut r VARIABLE_LIMIT file is.pieces is.tail is.part.cut is.part.allowed);
      stand = part_stands r VARIABLE_LIMIT file is.pieces is.tail is.ticks is.part;
    }
