-- The copy of a file by the rules of a part has the pieces of the part.
use Rattle.std.proofs.Common.{◌≡◌, ℕ, ◌∙◌, Bool, true, false, List, [], ◌∷◌, ◌++◌, refl, ap, sym, append_assoc}
use Rattle.std.proofs.Common.{if◌then◌else◌}
use Rattle.std.proofs.lemmas.List.{append-nil}
use Rattle.vcd_copy.specs.Pieces.{Piece, piece_bytes}
use Rattle.vcd_copy.specs.Copied.{copied_piece, copied_pieces, may_be_amended}
use Rattle.vcd_part.specs.declared.request.Request.{Request}
use Rattle.vcd_part.specs.PartPieces.{part_after, pieces_of_step}
use Rattle.vcd_part.specs.inside.PartCopy.{part_rules, PartIsCopied, waiting_stamp, waiting_from}
use Rattle.vcd_part.specs.inside.PartCopy.{settled_after, waiting_after, last_settled}
use Rattle.vcd_part.proofs.shared.StampItems.{other_no_stamp}
use Rattle.vcd_part.proofs.shared.PutPieces.{bytes_of_both}
use Rattle.vcd_part.proofs.shared.SettledPieces.{one_settled, last_both, settled_without, waiting_more, other_stands}

module _ (r : Request) where
  one_copied : (before : List Piece) (p : Piece) → copied_piece (part_rules r) before p
      ≡ piece_bytes (settled_after (waiting_stamp r before) (pieces_of_step r before p))
  one_copied before p = by_test (may_be_amended p.item) refl
    where
      w : List Piece
      w = waiting_stamp r before

      by_test : (b : Bool) → may_be_amended p.item ≡ b
          → (if b then piece_bytes (settled_after w (pieces_of_step r before p))
          else piece_bytes w ++ (p.space ++ p.body)) ≡ piece_bytes (settled_after w (pieces_of_step r before p))
      by_test true is = refl
      by_test false isnt = sym (ap (λ (l : List Piece). piece_bytes (settled_after w l)) (other_stands r before p isnt)
          ∙ ap piece_bytes (one_settled w p (other_no_stamp p.item isnt)) ∙ bytes_of_both w (p ∷ [])
          ∙ ap (λ (l : List ℕ). piece_bytes w ++ l) (append-nil (p.space ++ p.body)))

  all_copied : (before ps : List Piece) (tail : List ℕ)
      → copied_pieces (part_rules r) before ps ++ (part_rules r).at_end (before ++ ps) tail
      ≡ piece_bytes (last_settled (waiting_stamp r before) (part_after r before ps)) ++ tail
  unfolding copied_pieces part_after
  all_copied before [] tail = ap (λ (l : List Piece). (part_rules r).at_end l tail) (append-nil before)
  all_copied before (p ∷ ps) tail =
      let w : List Piece = waiting_stamp r before in
      let here : List Piece = pieces_of_step r before p in
      let rest : List Piece = part_after r (before ++ p ∷ []) ps in
      let ended : List Piece → List ℕ = λ (l : List Piece). (part_rules r).at_end l tail in
      append_assoc (copied_piece (part_rules r) before p) (copied_pieces (part_rules r) (before ++ p ∷ []) ps)
      (ended (before ++ p ∷ ps))
      ∙ (λ i. one_copied before p i
      ++ (copied_pieces (part_rules r) (before ++ p ∷ []) ps ++ ended (sym (append_assoc before (p ∷ []) ps) i)))
      ∙ ap (λ (l : List ℕ). piece_bytes (settled_after w here) ++ l) (all_copied (before ++ p ∷ []) ps tail
      ∙ ap (λ (v : List Piece). piece_bytes (last_settled v rest) ++ tail) (waiting_more r before p))
      ∙ sym (append_assoc (piece_bytes (settled_after w here)) (piece_bytes (last_settled (waiting_after w here) rest))
      tail)
      ∙ ap (λ (l : List ℕ). l ++ tail)
      (sym (ap piece_bytes (last_both w here rest)
      ∙ bytes_of_both (settled_after w here) (last_settled (waiting_after w here) rest)))

pub part_is_copied : PartIsCopied
unfolding waiting_from
part_is_copied r pieces tail = all_copied r [] pieces tail
    ∙ ap (λ (l : List Piece). piece_bytes l ++ tail) (settled_without (part_after r [] pieces))
