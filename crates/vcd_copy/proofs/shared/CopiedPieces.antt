-- The copy of pieces and of others after them.
use Rattle.std.proofs.Common.{◌≡◌, ◌∙◌, List, [], ◌∷◌, ◌++◌, sym, ap, append_assoc}
use Rattle.std.proofs.lemmas.List.{append-nil}
use Rattle.vcd_copy.specs.Pieces.{Piece}
use Rattle.vcd_copy.specs.Copied.{CopyRules, copied_piece, copied_pieces}

pub copied_more : (r : CopyRules) (before ps qs : List Piece)
    → copied_pieces r before (ps ++ qs) ≡ copied_pieces r before ps ++ copied_pieces r (before ++ ps) qs
unfolding copied_pieces
copied_more r before [] qs = ap (λ l. copied_pieces r l qs) (sym (append-nil before))
copied_more r before (p ∷ ps) qs =
    ap (λ l. copied_piece r before p ++ l) (copied_more r (before ++ p ∷ []) ps qs
    ∙ ap (λ l. copied_pieces r (before ++ p ∷ []) ps ++ copied_pieces r l qs) (append_assoc before (p ∷ []) ps))
    ∙ sym (append_assoc (copied_piece r before p) (copied_pieces r (before ++ p ∷ []) ps)
    (copied_pieces r (before ++ p ∷ ps) qs))

-- and of one piece more
pub copied_one : (r : CopyRules) (before ps : List Piece) (p : Piece)
    → copied_pieces r before (ps ++ p ∷ []) ≡ copied_pieces r before ps ++ copied_piece r (before ++ ps) p
unfolding copied_pieces
copied_one r before ps p = copied_more r before ps (p ∷ [])
    ∙ ap (λ l. copied_pieces r before ps ++ l) (append-nil (copied_piece r (before ++ ps) p))
