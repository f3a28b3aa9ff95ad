-- The copy that a `PartAmender` makes is that by the rules of a part.
use Rattle.std.proofs.Common.{◌≡◌, ◌∙◌, ℕ, Bool, List, [], ◌∷◌, ◌++◌, refl, sym, ap, ap₂, if◌then◌else◌}
use Rattle.vcd_text.specs.Grammar.{ParseState}
use Rattle.vcd_copy.specs.Pieces.{Piece}
use Rattle.vcd_copy.specs.Copied.{IsCopy, copied_piece, copied_pieces}
use Rattle.vcd_part.specs.PartPieces.{pieces_at_end}
use Rattle.vcd_part.specs.inside.PartCopy.{part_rules, waiting_stamp, last_settled}
use Rattle.vcd_copy.specs.Pieces.{piece_bytes}
use Rattle.vcd_part.specs.inside.PartAmender.{rules_of}
use Rattle.vcd_part.specs.declared.request.Request.{Request}
use Rattle.vcd_copy.proofs.shared.StatesOfPieces.{at_any_limit}
use Rattle.vcd_text.specs.declared.reading.TheConstants.{VARIABLE_LIMIT}
use Rattle.vcd_part.specs.PartEnds.{IsPartText}
use Rattle.vcd_part.proofs.part.CopiedPieces.{part_is_copied}

same_copied : (r : Request) (before ps : List Piece)
    → copied_pieces (rules_of r) before ps ≡ copied_pieces (part_rules r) before ps
unfolding copied_pieces
same_copied r before [] = refl
same_copied r before (p ∷ ps) = ap (λ l. copied_piece (part_rules r) before p ++ l)
    (same_copied r (before ++ p ∷ []) ps)

pub copied_by_part_rules : (limit : ℕ) (r : Request) (file text : List ℕ) → IsCopy limit (rules_of r) file text
    → IsCopy limit (part_rules r) file text
copied_by_part_rules limit r file text copy = record {
  pieces = copy.pieces;
  tail = copy.tail;
  cut = copy.cut;
  allowed = copy.allowed;
  in_body = copy.in_body;
  is = copy.is ∙ ap₂ (λ x y. x ++ y) (same_copied r [] copy.pieces) (ap (λ (b : Bool). piece_bytes
      (last_settled (waiting_stamp r copy.pieces) (if b then pieces_at_end r copy.pieces else [])) ++ copy.tail)
      (sym (ap (λ (s : ParseState). s.in_body) (at_any_limit limit copy.pieces)) ∙ copy.in_body));
}

-- so its text is that of the part's pieces
pub part_text : (r : Request) (file text : List ℕ) → IsCopy VARIABLE_LIMIT (part_rules r) file text
    → IsPartText r file text
part_text r file text copy = record {
  pieces = copy.pieces;
  tail = copy.tail;
  cut = copy.cut;
  allowed = copy.allowed;
  is = copy.is ∙ part_is_copied r copy.pieces copy.tail;
}
