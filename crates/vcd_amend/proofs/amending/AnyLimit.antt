-- The amended text does not hang on the greatest number of kept variables.
use Rattle.std.proofs.Common.{◌≡◌, ◌∙◌, ◌++◌, ◌∷◌, [], ℕ, Bool, List, refl, ap}
use Rattle.std.specs.List.{flat_map}
use Rattle.vcd_text.specs.Items.{Item, entry, timescale, scope, upscope, variable, end_definitions, stamp, scalar}
use Rattle.vcd_text.specs.Items.{vector, real_or_string, dump_word, other}
use Rattle.vcd_text.specs.Grammar.{ParseState, state_after_item}
use Rattle.vcd_copy.specs.Pieces.{Piece}
use Rattle.vcd_text.specs.Text.{item_line}
use Rattle.vcd_amend.specs.Amendment.{Amendment}
use Rattle.vcd_amend.specs.AmendedItems.{item_fate, inserted_items, still_none_yet}
use Rattle.vcd_amend.specs.AmendedText.{amended_text, bytes_in_place}
use Rattle.vcd_copy.proofs.shared.StatesOfPieces.{at_limit, item_at_limit}

fate_at : (a : Amendment) (n : ℕ) (s : ParseState) (i : Item) → item_fate a (at_limit n s) i ≡ item_fate a s i
fate_at a n s (variable []) = refl
fate_at a n s (variable (kind ∷ [])) = refl
fate_at a n s (variable (kind ∷ size ∷ [])) = refl
fate_at a n s (variable (kind ∷ size ∷ code ∷ [])) = refl
fate_at a n s (variable (kind ∷ size ∷ code ∷ name ∷ names)) = refl
fate_at a n s (scalar digit code) = refl
fate_at a n s (vector first digits code) = refl
fate_at a n s (real_or_string first text code) = refl
fate_at a n s (entry kind words) = refl
fate_at a n s (timescale words) = refl
fate_at a n s (scope kind words) = refl
fate_at a n s upscope = refl
fate_at a n s end_definitions = refl
fate_at a n s (stamp digits) = refl
fate_at a n s (dump_word word) = refl
fate_at a n s (other word words) = refl

inserted_at : (a : Amendment) (none : Bool) (n : ℕ) (s : ParseState) (i : Item)
    → inserted_items a none (at_limit n s) i ≡ inserted_items a none s i
inserted_at a none n s (variable words) = refl
inserted_at a none n s (scalar digit code) = refl
inserted_at a none n s (vector first digits code) = refl
inserted_at a none n s (real_or_string first text code) = refl
inserted_at a none n s (entry kind words) = refl
inserted_at a none n s (timescale words) = refl
inserted_at a none n s (scope kind words) = refl
inserted_at a none n s upscope = refl
inserted_at a none n s end_definitions = refl
inserted_at a none n s (stamp digits) = refl
inserted_at a none n s (dump_word word) = refl
inserted_at a none n s (other word words) = refl

pub text_at : (a : Amendment) (none : Bool) (n : ℕ) (s : ParseState) (ps : List Piece) (tail : List ℕ)
    → amended_text a none (at_limit n s) ps tail ≡ amended_text a none s ps tail
unfolding amended_text
text_at a none n s [] tail = refl
text_at a none n s (p ∷ ps) tail =
    let fate = fate_at a n s p.item in
    let inserted = inserted_at a none n s p.item in
    let state = item_at_limit n s p.item in
    let bytes = bytes_in_place (item_fate a s p.item) (flat_map item_line (inserted_items a none s p.item)) p in
    (λ j. bytes_in_place (fate j) (flat_map item_line (inserted j)) p
    ++ amended_text a (still_none_yet none (fate j) p.item) (state j) ps tail)
    ∙ ap (λ l. bytes ++ l) (text_at a (still_none_yet none (item_fate a s p.item) p.item) n (state_after_item s p.item)
    ps tail)
