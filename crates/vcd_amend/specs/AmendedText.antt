-- The bytes of an amended file: what stands, stands byte for byte. The project's own.
use Rattle.std.specs.Prelude.{ℕ, Bool, true, false, ◌==◌, if◌then◌else◌, List, [], ◌∷◌, ◌++◌, map}
use Rattle.std.specs.Prelude.{length, drop, IsTrue, count_by}
use Rattle.std.specs.List.{flat_map, join_with_byte}
use Rattle.vcd_core.specs.Word.{is_white_space}
use Rattle.vcd_text.specs.Items.{Item, spelling, variable}
use Rattle.vcd_text.specs.Grammar.{ParseState, initial_state, state_after_item, AllowsAll}
use Rattle.vcd_text.specs.Grammar.{is_skipped}
use Rattle.vcd_text.specs.Meaning.{FileMeans}
use Rattle.vcd_text.specs.Text.{item_line}
use Rattle.vcd_amend.specs.Amendment.{Amendment}
use Rattle.vcd_amend.specs.AmendedItems.{ItemFate, stands, is_left_out, is_exchanged, item_fate}
use Rattle.vcd_amend.specs.AmendedItems.{inserted_items, items_due_at, still_none_yet}
use Rattle.vcd_amend.specs.AmendedMeaning.{FitsFile, amended_meaning}
use Rattle.vcd_copy.specs.Pieces.{Piece, IsCut, state_of_pieces}

-- the first of words, or no byte
abbrev pub next_word : List (List ℕ) → List ℕ
next_word [] = []
next_word (w ∷ ws) = w

-- bytes with other words in place of theirs, one after another; the white space between them stays
abbrev pub with_words : (in_word : Bool) → List ℕ → List (List ℕ) → List ℕ
with_words in_word [] ws = []
with_words in_word (b ∷ bs) ws = if is_white_space b then b ∷ with_words false bs ws
    else (if in_word then with_words true bs ws
    else next_word ws ++ with_words true bs (drop 1 ws))

-- the bytes of another item in the place of a piece: a `$var` with as many words keeps the white
-- space between them, any other item has one space between its words
abbrev pub exchanged_bytes : Piece → Item → List ℕ
exchanged_bytes p (variable words) =
    if length (spelling (variable words)) == length (spelling p.item)
    then with_words false p.body (spelling (variable words))
    else join_with_byte 32 (spelling (variable words))
exchanged_bytes p j = join_with_byte 32 (spelling j)

-- the bytes in the place of a piece with this fate, with these lines put before its words
abbrev pub bytes_in_place : ItemFate → (lines : List ℕ) → Piece → List ℕ
bytes_in_place stands lines p = p.space ++ (lines ++ p.body)
bytes_in_place is_left_out lines p = lines
bytes_in_place (is_exchanged j) lines p = p.space ++ (lines ++ exchanged_bytes p j)

-- the bytes of the amended file in place of these pieces after this state. What is put before an
-- item stands on lines of its own, between the item and the white space before it. What comes last
-- stands before the white space at the end
unfoldable pub amended_text : Amendment → (none_yet : Bool) → ParseState → List Piece
    → (tail : List ℕ) → List ℕ
amended_text a none_yet s [] tail =
    flat_map (λ i. 10 ∷ join_with_byte 32 (spelling i)) (items_due_at a s s.tick) ++ tail
amended_text a none_yet s (p ∷ ps) tail =
    bytes_in_place (item_fate a s p.item) (flat_map item_line (inserted_items a none_yet s p.item))
    p
    ++ amended_text a (still_none_yet none_yet (item_fate a s p.item) p.item)
    (state_after_item s p.item) ps tail

-- if an amendment fits an accepted file, the text of the amended file means the amended capture,
-- with as many variables skipped as before
abbrev pub AmendedTextMeansAmendedCapture : Type 0
AmendedTextMeansAmendedCapture =
    (a : Amendment) (limit : ℕ) (file : List ℕ) (pieces : List Piece) (tail : List ℕ)
    → IsCut file pieces tail
    → AllowsAll (initial_state limit) (map (λ p. p.item) pieces)
    → IsTrue (state_of_pieces limit pieces).in_body
    → FitsFile a (state_of_pieces limit pieces)
    → FileMeans limit (amended_text a true (initial_state limit) pieces tail)
    (amended_meaning a (state_of_pieces limit pieces))
    (count_by is_skipped (state_of_pieces limit pieces).declared)
