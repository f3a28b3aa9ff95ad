-- The pieces of a copy and those that an amender was told of have the same items.
use Rattle.std.proofs.Common.{◌≡◌, ◌∙◌, ℕ, suc, Bool, true, false, List, [], ◌∷◌, ◌++◌, refl, sym, ap, length, filter}
use Rattle.std.proofs.lemmas.List.{append-nil}
use Rattle.vcd_text.specs.Items.{Item, spellings}
use Rattle.vcd_text.specs.Grammar.{initial_state}
use Rattle.vcd_copy.specs.Pieces.{Piece}
use Rattle.vcd_copy.specs.Copied.{CopyRules, IsCopy, IsTold, piece_items, is_comment_or_other}
use Rattle.vcd_part.specs.PartPieces.{bounded_count}
use Rattle.vcd_part.specs.WrittenPart.{comment_count}
use Rattle.vcd_copy.proofs.shared.SpelledItems.{cut_spells_items, same_items}

pub told_items : (limit : ℕ) (r : CopyRules) (told : List Piece → Type 0) (file text : List ℕ)
    (copy : IsCopy limit r file text) (t : IsTold limit false told file)
    → piece_items copy.pieces ≡ piece_items t.pieces
told_items limit r told file text copy t =
    same_items (initial_state limit) (piece_items copy.pieces) (piece_items t.pieces)
    (sym (cut_spells_items file copy.pieces copy.tail copy.cut) ∙ t.words
    ∙ ap (λ ws. spellings (piece_items t.pieces) ++ ws) (t.all refl).0 ∙ append-nil (spellings (piece_items t.pieces)))
    copy.allowed t.allowed

items_counted : (test : Item → Bool) (pieces : List Piece)
    → length (filter (λ p. test p.item) pieces) ≡ length (filter test (piece_items pieces))
items_counted test [] = refl
items_counted test (p ∷ ps) = by_test (test p.item) refl (items_counted test ps)
  where
    by_test : (b : Bool) → test p.item ≡ b
        → length (filter (λ q. test q.item) ps) ≡ length (filter test (piece_items ps))
        → length (filter (λ q. test q.item) (p ∷ ps)) ≡ length (filter test (piece_items (p ∷ ps)))
    by_test true is rest = rw is (ap (λ n. suc n) rest)
    by_test false is rest = rw is rest

-- so the count of comments and other commands is the same
pub same_comments : (ps qs : List Piece) → piece_items ps ≡ piece_items qs → comment_count ps ≡ comment_count qs
same_comments ps qs same = ap bounded_count (items_counted is_comment_or_other ps
    ∙ ap (λ items. length (filter is_comment_or_other items)) same ∙ sym (items_counted is_comment_or_other qs))
