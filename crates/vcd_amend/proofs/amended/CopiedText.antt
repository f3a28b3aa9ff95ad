-- The copy of a file by the rules of an amendment is the amended text.
use Rattle.std.proofs.Common.{◌≡◌, ◌∙◌, ℕ, Bool, true, List, [], ◌∷◌, ◌++◌, cond, refl, sym, ap, ap₂}
use Rattle.std.proofs.Common.{append_assoc, map}
use Rattle.std.specs.List.{flat_map}
use Rattle.std.proofs.lemmas.List.{append-nil}
use Rattle.vcd_text.specs.Items.{Item, variable, end_definitions, stamp, scalar, vector, real_or_string, entry}
use Rattle.vcd_text.specs.Items.{timescale, scope, upscope, dump_word, other}
use Rattle.vcd_text.specs.Grammar.{ParseState, initial_state, state_after, state_after_item}
use Rattle.vcd_text.specs.Text.{item_line}
use Rattle.vcd_copy.specs.Pieces.{Piece, state_of_pieces}
use Rattle.vcd_copy.specs.Copied.{may_be_amended, copied_piece, copied_pieces}
use Rattle.vcd_amend.specs.Amendment.{Amendment}
use Rattle.vcd_amend.specs.AmendedItems.{item_fate, inserted_items, still_none_yet}
use Rattle.vcd_amend.specs.AmendedText.{bytes_in_place, amended_text}
use Rattle.vcd_amend.specs.AmendedCopy.{none_yet_after, amendment_rules, CopyIsAmendedText}

-- a piece that no rule may amend has its own bytes by the rules, too
place_is : (a : Amendment) (none_yet : Bool) (s : ParseState) (i : Item) (p : Piece)
    → cond (may_be_amended i) (bytes_in_place (item_fate a s i) (flat_map item_line (inserted_items a none_yet s i)) p)
    (p.space ++ p.body)
    ≡ bytes_in_place (item_fate a s i) (flat_map item_line (inserted_items a none_yet s i)) p
place_is a none_yet s (variable words) p = refl
place_is a none_yet s end_definitions p = refl
place_is a none_yet s (stamp digits) p = refl
place_is a none_yet s (scalar digit code) p = refl
place_is a none_yet s (vector first digits code) p = refl
place_is a none_yet s (real_or_string first text code) p = refl
place_is a none_yet s (entry kind words) p = refl
place_is a none_yet s (timescale words) p = refl
place_is a none_yet s (scope kind words) p = refl
place_is a none_yet s upscope p = refl
place_is a none_yet s (dump_word word) p = refl
place_is a none_yet s (other word words) p = refl

-- the state after one piece more
state_more : (s : ParseState) (before : List Piece) (p : Piece)
    → state_after s (map (λ p. p.item) (before ++ p ∷ [])) ≡ state_after_item (state_after s (map (λ p. p.item) before))
    p.item
state_more s [] p = refl
state_more s (q ∷ before) p = state_more (state_after_item s q.item) before p

-- whether nothing was written after one piece more
pub none_yet_more : (a : Amendment) (none_yet : Bool) (s : ParseState) (before : List Piece) (p : Piece)
    → none_yet_after a none_yet s (before ++ p ∷ [])
    ≡ still_none_yet (none_yet_after a none_yet s before)
    (item_fate a (state_after s (map (λ p. p.item) before)) p.item) p.item
none_yet_more a none_yet s [] p = refl
none_yet_more a none_yet s (q ∷ before) p =
    none_yet_more a (still_none_yet none_yet (item_fate a s q.item) q.item) (state_after_item s q.item) before p

-- the copy of the pieces that follow others
copied_after : (a : Amendment) (limit : ℕ) (before ps : List Piece) (tail : List ℕ)
    → copied_pieces (amendment_rules a limit) before ps ++ (amendment_rules a limit).at_end (before ++ ps) tail
    ≡ amended_text a (none_yet_after a true (initial_state limit) before) (state_of_pieces limit before) ps tail
unfolding copied_pieces amended_text
copied_after a limit before [] tail = ap (λ l. (amendment_rules a limit).at_end l tail) (append-nil before)
copied_after a limit before (p ∷ ps) tail =
    let r = amendment_rules a limit in
    let s = state_of_pieces limit before in
    let none_yet = none_yet_after a true (initial_state limit) before in
    let last : r.at_end (before ++ p ∷ ps) tail ≡ r.at_end ((before ++ p ∷ []) ++ ps) tail =
    ap (λ l. r.at_end l tail) (sym (append_assoc before (p ∷ []) ps)) in
    let later : amended_text a (none_yet_after a true (initial_state limit) (before ++ p ∷ []))
    (state_of_pieces limit (before ++ p ∷ [])) ps tail
    ≡ amended_text a (still_none_yet none_yet (item_fate a s p.item) p.item) (state_after_item s p.item) ps tail =
    ap₂ (λ n t. amended_text a n t ps tail) (none_yet_more a true (initial_state limit) before p)
    (state_more (initial_state limit) before p) in
    append_assoc (copied_piece r before p) (copied_pieces r (before ++ p ∷ []) ps) (r.at_end (before ++ p ∷ ps) tail)
    ∙ ap₂ (λ x y. x ++ y) (place_is a none_yet s p.item p) (ap (λ l. copied_pieces r (before ++ p ∷ []) ps ++ l) last
    ∙ copied_after a limit (before ++ p ∷ []) ps tail ∙ later)

-- the copy of a file
pub copy_is_amended_text : CopyIsAmendedText
copy_is_amended_text a limit pieces tail = copied_after a limit [] pieces tail
