-- The words of bytes that are put together at white space.
use Rattle.std.proofs.Common.{◌≡◌, ◌∙◌, ℕ, Bool, true, List, [], ◌∷◌, ◌++◌, refl, ap, sym, append_assoc, inl, inr}
use Rattle.std.specs.List.{list_all, flat_map, join_with_byte}
use Rattle.std.proofs.lemmas.Bool.{and_parts, cases_Bool}
use Rattle.std.proofs.lemmas.List.{append-nil, map-append}
use Rattle.vcd_core.specs.Word.{is_white_space}
use Rattle.vcd_text.specs.Words.{words_of}
use Rattle.vcd_text.specs.inside.Words.{words_from, line_after, word_of}
use Rattle.vcd_text.specs.Items.{Item, spelling, spellings}
use Rattle.vcd_text.specs.Grammar.{word_texts}
use Rattle.vcd_text.specs.Text.{item_line}
use Rattle.vcd_text.proofs.shared.WordsInTurn.{space_passed}
use Rattle.vcd_text.proofs.shared.WordsByBytes.{words_by_bytes}
use Rattle.vcd_text.proofs.read_back.Words.{is_unbroken, is_spelled, words_of_line}

-- the texts of the words, after the bytes of a word that has begun
abbrev pub texts_after : (begun : List ℕ) → ℕ → List ℕ → List (List ℕ)
texts_after begun line bytes = word_texts (words_from true begun line bytes)

-- the texts of the words of bytes
abbrev pub texts : List ℕ → List (List ℕ)
texts bytes = texts_after [] 1 bytes

pub texts_are : (bytes : List ℕ) → word_texts (words_of bytes) ≡ texts bytes
texts_are bytes = ap word_texts (words_by_bytes bytes)

word_on_any_line : (begun : List ℕ) (l m : ℕ) → word_texts (word_of begun l) ≡ word_texts (word_of begun m)
word_on_any_line [] l m = refl
word_on_any_line (b ∷ bs) l m = refl

-- they do not depend on the line
pub any_line : (begun bytes : List ℕ) (l m : ℕ) → texts_after begun l bytes ≡ texts_after begun m bytes
unfolding words_from
any_line begun [] l m = word_on_any_line begun l m
any_line begun (b ∷ bs) l m = elim (cases_Bool (is_white_space b)) [
  | inl space ↦ rw space (map-append (λ w. w.text) (word_of begun l) (words_from true [] (line_after b l) bs)
      ∙ ap (λ ws. ws ++ texts_after [] (line_after b l) bs) (word_on_any_line begun l m) ∙ ap (λ ws. word_texts (word_of
      begun m)
      ++ ws) (any_line [] bs (line_after b l) (line_after b m)) ∙ sym (map-append (λ w. w.text) (word_of begun m)
      (words_from true [] (line_after b m) bs)))
  | inr goes_on ↦ rw goes_on (any_line (begun ++ b ∷ []) bs (line_after b l) (line_after b m))
]

-- whether bytes are at an end of words: there are none, or white space comes first
abbrev pub is_end : List ℕ → Bool
is_end [] = true
is_end (b ∷ bs) = is_white_space b

-- white space in front has no word
pub space_first : (space rest : List ℕ) → list_all is_white_space space ≡ true → texts (space ++ rest) ≡ texts rest
space_first [] rest all = refl
space_first (b ∷ bs) rest all =
    let parts = and_parts (is_white_space b) (list_all is_white_space bs) all in
    ap word_texts (space_passed true 1 b (bs ++ rest) parts.0) ∙ any_line [] (bs ++ rest) (line_after b 1) 1
    ∙ space_first bs rest parts.1

-- a word that has begun ends before the rest
begun_ends : (begun : List ℕ) (line : ℕ) (rest : List ℕ) → is_end rest ≡ true
    → texts_after begun line rest ≡ word_texts (word_of begun line) ++ texts_after [] line rest
unfolding words_from
begun_ends begun line [] ends = sym (append-nil (word_texts (word_of begun line)))
begun_ends begun line (b ∷ bs) ends =
    rw ends (map-append (λ w. w.text) (word_of begun line) (words_from true [] (line_after b line) bs))

-- two parts, the second at an end of words
parts_from : (begun : List ℕ) (line : ℕ) (xs rest : List ℕ) → is_end rest ≡ true
    → texts_after begun line (xs ++ rest) ≡ texts_after begun line xs ++ texts rest
unfolding words_from
parts_from begun line [] rest ends = begun_ends begun line rest ends ∙ ap (λ ws. word_texts (word_of begun line) ++ ws)
    (any_line [] rest line 1)
parts_from begun line (x ∷ xs) rest ends = elim (cases_Bool (is_white_space x)) [
  | inl space ↦ rw space (map-append (λ w. w.text) (word_of begun line) (words_from true [] (line_after x line) (xs
      ++ rest)) ∙ ap (λ ws. word_texts (word_of begun line) ++ ws) (parts_from [] (line_after x line) xs rest ends)
      ∙ sym (append_assoc (word_texts (word_of begun line)) (texts_after [] (line_after x line) xs) (texts rest)) ∙ ap
      (λ ws. ws ++ texts rest) (sym (map-append (λ w. w.text) (word_of begun line) (words_from true [] (line_after x
      line) xs))))
  | inr goes_on ↦ rw goes_on (parts_from (begun ++ x ∷ []) (line_after x line) xs rest ends)
]

pub both_parts : (xs rest : List ℕ) → is_end rest ≡ true → texts (xs ++ rest) ≡ texts xs ++ texts rest
both_parts xs rest ends = parts_from [] 1 xs rest ends

-- words with one space between them
pub joined_words : (ws : List (List ℕ)) → list_all is_unbroken ws ≡ true → texts (join_with_byte 32 ws) ≡ ws
unfolding words_from
joined_words ws unbroken =
    sym (append-nil (texts (join_with_byte 32 ws))) ∙ sym (both_parts (join_with_byte 32 ws) (10 ∷ []) refl)
    ∙ words_of_line 1 ws [] unbroken ∙ append-nil ws

-- lines of items in front
pub lines_first : (items : List Item) (rest : List ℕ) → list_all is_spelled items ≡ true
    → texts (flat_map item_line items ++ rest) ≡ spellings items ++ texts rest
lines_first [] rest spelled = refl
lines_first (i ∷ is) rest spelled =
    let parts = and_parts (is_spelled i) (list_all is_spelled is) spelled in
    let words : List ℕ = join_with_byte 32 (spelling i) in
    ap texts (append_assoc (words ++ 10 ∷ []) (flat_map item_line is) rest ∙ append_assoc words (10 ∷ []) (flat_map
    item_line is ++ rest)) ∙ words_of_line 1 (spelling i) (flat_map item_line is ++ rest) parts.0 ∙ ap (λ ws. spelling i
    ++ ws) (any_line [] (flat_map item_line is ++ rest) 2 1 ∙ lines_first is rest parts.1) ∙ sym
    (append_assoc (spelling i) (spellings is) (texts rest))

-- lines of items at the end, each after its line feed
pub lines_last : (items : List Item) (tail : List ℕ) → list_all is_spelled items ≡ true
    → list_all is_white_space tail ≡ true
    → (texts (flat_map (λ i. 10 ∷ join_with_byte 32 (spelling i)) items ++ tail) ≡ spellings items)
    × (is_end (flat_map (λ i. 10 ∷ join_with_byte 32 (spelling i)) items ++ tail) ≡ true)
unfolding words_from
lines_last [] [] spelled space = (refl, refl)
lines_last [] (b ∷ bs) spelled space = (
  ap texts (sym (append-nil (b ∷ bs))) ∙ space_first (b ∷ bs) [] space,
  (and_parts (is_white_space b) (list_all is_white_space bs) space).0,
)
lines_last (i ∷ is) tail spelled space =
    let parts = and_parts (is_spelled i) (list_all is_spelled is) spelled in
    let words : List ℕ = join_with_byte 32 (spelling i) in
    let rest = lines_last is tail parts.1 space in
    let more : List ℕ = flat_map (λ i. 10 ∷ join_with_byte 32 (spelling i)) is ++ tail in (
      ap texts (append_assoc (10 ∷ words) (flat_map (λ i. 10 ∷ join_with_byte 32 (spelling i)) is) tail)
          ∙ space_first (10
          ∷ []) (words ++ more) refl ∙ both_parts words more rest.1 ∙ ap (λ ws. ws ++ texts more)
          (joined_words (spelling i)
          parts.0) ∙ ap (λ ws. spelling i ++ ws) rest.0,
      refl,
    )
