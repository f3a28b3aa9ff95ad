-- The amended text as a copy: what an amender puts in the place of each item, by an amendment. The
-- project's own.
use Rattle.std.specs.Prelude.{◌≡◌, ℕ, Bool, true, List, [], ◌∷◌, ◌++◌}
use Rattle.std.specs.List.{flat_map, join_with_byte}
use Rattle.vcd_text.specs.Items.{spelling}
use Rattle.vcd_text.specs.Grammar.{ParseState, initial_state, state_after_item}
use Rattle.vcd_text.specs.Text.{item_line}
use Rattle.vcd_copy.specs.Pieces.{Piece, state_of_pieces}
use Rattle.vcd_copy.specs.Copied.{CopyRules, copied}
use Rattle.vcd_amend.specs.Amendment.{Amendment}
use Rattle.vcd_amend.specs.AmendedItems.{item_fate, inserted_items, items_due_at, still_none_yet}
use Rattle.vcd_amend.specs.AmendedText.{bytes_in_place, amended_text}

-- whether neither a stamp nor a change has been written yet, after these pieces from a state on
abbrev pub none_yet_after : Amendment → (none_yet : Bool) → ParseState → List Piece → Bool
none_yet_after a none_yet s [] = none_yet
none_yet_after a none_yet s (p ∷ ps) =
    none_yet_after a (still_none_yet none_yet (item_fate a s p.item) p.item)
    (state_after_item s p.item) ps

-- what an amendment puts in the place of a piece after others, and of the white space at the end
abbrev pub amendment_rules : Amendment → (limit : ℕ) → CopyRules
amendment_rules a limit = record {
  in_place = λ before p.
      let s = state_of_pieces limit before in
      let none_yet = none_yet_after a true (initial_state limit) before in
      bytes_in_place (item_fate a s p.item)
      (flat_map item_line (inserted_items a none_yet s p.item)) p;
  before_others = λ before. [];
  at_end = λ pieces tail.
      let s = state_of_pieces limit pieces in
      flat_map (λ i. 10 ∷ join_with_byte 32 (spelling i)) (items_due_at a s s.tick) ++ tail;
}

-- the copy of a file by these rules is the amended text
abbrev pub CopyIsAmendedText : Type 0
CopyIsAmendedText = (a : Amendment) (limit : ℕ) (pieces : List Piece) (tail : List ℕ)
    → copied (amendment_rules a limit) pieces tail
    ≡ amended_text a true (initial_state limit) pieces tail
