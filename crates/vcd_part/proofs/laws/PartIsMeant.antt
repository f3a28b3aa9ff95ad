-- The part of an accepted file means the part of the capture.
use Rattle.std.proofs.Common.{◌∙◌, List, refl, ap, sym}
use Rattle.std.specs.Prelude.{count_by}
use Rattle.vcd_text.specs.Grammar.{ParseState, is_skipped}
use Rattle.vcd_text.specs.Meaning.{meaning}
use Rattle.vcd_copy.specs.Copied.{piece_items}
use Rattle.vcd_copy.specs.Pieces.{Piece, state_of_pieces}
use Rattle.vcd_part.specs.Requests.{keeps}
use Rattle.vcd_part.specs.PartPieces.{part_pieces}
use Rattle.vcd_part.specs.PartLaws.{PartMeansPart}
use Rattle.vcd_part.proofs.laws.states.PartIsAccepted.{words_at, in_order, part_ends}
use Rattle.vcd_part.proofs.laws.PartMeaning.{part_is_meant, count_kept}
use Rattle.vcd_part.proofs.laws.text.TextOfPart.{part_spelled}

pub part_means_part : PartMeansPart
part_means_part r limit file pieces tail w has =
    let part : List Piece = part_pieces r pieces in
    let whole : ParseState = state_of_pieces limit pieces in
    let order = in_order r limit file pieces tail w has in
    let ends = part_ends r limit file pieces tail w has in
    record {
      state = state_of_pieces limit part;
      accepted = record {
        items = piece_items part;
        spelled = part_spelled r limit file pieces tail has.cut has.allowed;
        allowed = ends.leads.allowed;
        state_is = refl;
        definitions_ended = ap (λ (s : ParseState). s.in_body) ends.leads.state_is ∙ has.in_body;
      };
      means = sym (ap meaning ends.leads.state_is ∙ part_is_meant r w order (words_at r w whole) whole ends.more
          ends.one has.within ends.same);
      left_out = count_kept (keeps r) is_skipped whole.declared
          ∙ sym (ap (λ (s : ParseState). count_by is_skipped s.declared) ends.leads.state_is);
    }
