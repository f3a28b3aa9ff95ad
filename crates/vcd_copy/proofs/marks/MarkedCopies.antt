-- The copy with a mark is the copy of the pieces with the mark.
use Rattle.std.proofs.Common.{◌≡◌, ℕ, ◌∙◌, Bool, true, List, [], ◌∷◌, ◌++◌, refl, ap, sym, Option, Some, None}
use Rattle.std.proofs.Common.{if◌then◌else◌, append-nil}
use Rattle.vcd_copy.specs.Pieces.{Piece}
use Rattle.vcd_copy.specs.Copied.{CopyRules, copied_piece, copied_pieces, may_be_amended}
use Rattle.vcd_copy.specs.Marks.{CommentBytes, comment_piece, mark_before, after_mark, with_mark, in_place_after}
use Rattle.vcd_copy.specs.Marks.{marked_rules, CopyWithMarkIsCopyOfMarked}
use Rattle.vcd_copy.proofs.shared.CopiedPieces.{copied_more}
use Rattle.vcd_copy.proofs.marks.MarkedFiles.{ends_with_mark, with_one_more}

module _ (mark : Option CommentBytes) (r : CopyRules) where
  -- of one piece
  one_copied : (before : List Piece) (p : Piece) → copied_piece (marked_rules mark r) before p
      ≡ copied_pieces r (with_mark mark before) (after_mark (mark_before mark p.item) p)
  unfolding copied_pieces
  one_copied before p = by_test (mark_before mark p.item) refl
    where
      by_test : (o : Option CommentBytes) → mark_before mark p.item ≡ o
          → (if may_be_amended p.item then in_place_after r (with_mark mark before) o p
          else r.before_others (with_mark mark before) ++ (p.space ++ p.body))
          ≡ copied_pieces r (with_mark mark before) (after_mark o p)
      by_test None none = sym (append-nil (copied_piece r (with_mark mark before) p))
      by_test (Some c) ends =
          let marked : List Piece = with_mark mark before in
          let may : may_be_amended p.item ≡ true = ap may_be_amended (ends_with_mark mark p.item c ends).0 in
          let first : List ℕ = r.before_others marked ++ (p.space ++ c.bytes) in
          let next : Piece = record p { space = 10 ∷ [] } in
          let later : List Piece = marked ++ comment_piece p.space c ∷ [] in
          ap (λ (b : Bool). if b then first ++ r.in_place later next
          else r.before_others marked ++ (p.space ++ p.body)) may
          ∙ ap (λ (b : Bool). first ++ (if b then r.in_place later next
          else r.before_others later ++ (next.space ++ next.body))) (sym may)
          ∙ ap (λ (l : List ℕ). first ++ l) (sym (append-nil (copied_piece r later next)))

  all_copied : (before ps : List Piece) → copied_pieces (marked_rules mark r) before ps
      ≡ copied_pieces r (with_mark mark before) (with_mark mark ps)
  unfolding with_mark copied_pieces
  all_copied before [] = refl
  all_copied before (p ∷ ps) =
      let here : List Piece = after_mark (mark_before mark p.item) p in
      (λ i. one_copied before p i ++ (all_copied (before ++ p ∷ []) ps
      ∙ ap (λ (b : List Piece). copied_pieces r b (with_mark mark ps)) (with_one_more mark before p)) i)
      ∙ sym (copied_more r (with_mark mark before) here (with_mark mark ps))

pub copy_with_mark_is_copy_of_marked : CopyWithMarkIsCopyOfMarked
unfolding with_mark
copy_with_mark_is_copy_of_marked mark r pieces tail =
    ap (λ (l : List ℕ). l ++ r.at_end (with_mark mark pieces) tail) (all_copied mark r [] pieces)
