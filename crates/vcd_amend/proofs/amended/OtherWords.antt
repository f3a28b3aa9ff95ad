-- The words of bytes that have other words in place of theirs, and the words of pieces.
use Rattle.std.proofs.Common.{◌≡◌, ◌+◌, ◌∙◌, ◌==◌, ℕ, Bool, true, false, List, [], ◌∷◌, ◌++◌, refl, length, ap, sym}
use Rattle.std.proofs.Common.{arith, inl, inr, if◌then◌else◌, drop, ◌<◌, map, not}
use Rattle.std.specs.List.{list_all, join_with_byte}
use Rattle.std.proofs.lemmas.Bool.{and_parts, and_from, cases_Bool, eqb-true}
use Rattle.std.proofs.lemmas.List.{map-append, length-append}
use Rattle.vcd_core.specs.Word.{is_white_space}
use Rattle.vcd_text.specs.inside.Words.{words_from, line_after, word_of}
use Rattle.vcd_text.specs.Items.{Item, spelling, entry, timescale, scope, upscope, variable, end_definitions, stamp}
use Rattle.vcd_text.specs.Items.{scalar, vector, real_or_string, dump_word, other}
use Rattle.vcd_text.specs.Grammar.{word_texts}
use Rattle.vcd_copy.specs.Pieces.{Piece}
use Rattle.vcd_text.proofs.read_back.Words.{is_unbroken, is_spelled}
use Rattle.vcd_copy.proofs.pieces.Bytes.{texts, texts_after, is_end, space_first, both_parts, joined_words}
use Rattle.vcd_text.specs.Words.{words_of}
use Rattle.vcd_text.proofs.shared.WordsByBytes.{texts_of_file_are_runs}
use Rattle.vcd_text.proofs.shared.WordsInTurn.{is_run_text}
use Rattle.vcd_text.proofs.shared.ItemTests.{all_weaker}
use Rattle.vcd_amend.specs.AmendedText.{next_word, with_words, exchanged_bytes}

-- ==== the words of bytes that have other words in place of theirs

-- ---- how many words there are

-- how many words begin in bytes
abbrev pub starts : (in_word : Bool) → List ℕ → ℕ
starts in_word [] = 0
starts in_word (b ∷ bs) = if is_white_space b then starts false bs
    else (if in_word then starts true bs else 1 + starts true bs)

abbrev has_begun : List ℕ → Bool
has_begun [] = false
has_begun (b ∷ bs) = true

abbrev begun_count : Bool → ℕ
begun_count true = 1
begun_count false = 0

one_word_long : (begun : List ℕ) (line : ℕ) → length (word_texts (word_of begun line)) ≡ begun_count (has_begun begun)
one_word_long [] line = refl
one_word_long (b ∷ bs) line = refl

goes_on_begun : (begun : List ℕ) (b : ℕ) → has_begun (begun ++ b ∷ []) ≡ true
goes_on_begun [] b = refl
goes_on_begun (c ∷ cs) b = refl

either_count : (begun : Bool) (n : ℕ) → 1 + n ≡ begun_count begun + (if begun then n else 1 + n)
either_count true n = refl
either_count false n = omega arith

no_more : (n : ℕ) → 0 + n ≡ n
no_more n = omega arith

words_count : (begun : List ℕ) (line : ℕ) (bs : List ℕ)
    → length (texts_after begun line bs) ≡ begun_count (has_begun begun) + starts (has_begun begun) bs
unfolding words_from
words_count begun line [] = one_word_long begun line ∙ omega arith
words_count begun line (b ∷ bs) = elim (cases_Bool (is_white_space b)) [
  | inl space ↦ rw space (ap length (map-append (λ w. w.text) (word_of begun line) (words_from true []
      (line_after b line) bs)) ∙ length-append (word_texts (word_of begun line)) _ ∙ ap (λ n. n + length (texts_after []
      (line_after b line) bs)) (one_word_long begun line) ∙ ap (λ n. begun_count (has_begun begun) + n) (words_count []
      (line_after b line) bs
      ∙ no_more (starts false bs)))
  | inr goes_on ↦ rw goes_on (words_count (begun ++ b ∷ []) (line_after b line) bs ∙ ap (λ (h : Bool). begun_count h
      + starts h bs) (goes_on_begun begun b) ∙ either_count (has_begun begun) (starts true bs))
]

-- ---- other words

-- after a word the rest is at an end
word_ends : (bs : List ℕ) (ws : List (List ℕ)) → is_end (with_words true bs ws) ≡ true
word_ends [] ws = refl
word_ends (b ∷ bs) ws = elim (cases_Bool (is_white_space b)) [
  | inl space ↦ rw space space
  | inr goes_on ↦ rw goes_on (word_ends bs ws)
]

other_words : (in_word : Bool) (bs : List ℕ) (ws : List (List ℕ)) → length ws ≡ starts in_word bs
    → list_all is_unbroken ws ≡ true → texts (with_words in_word bs ws) ≡ ws
unfolding words_from
other_words in_word [] [] long unbroken = refl
other_words in_word [] (w ∷ ws) long unbroken = absurd (omega (arith, long))
other_words in_word (b ∷ bs) ws long unbroken = elim (cases_Bool (is_white_space b)) [
  | inl space ↦
      let rest = other_words false bs ws (rw space at long) unbroken in
      rw space (space_first (b ∷ []) (with_words false bs ws) (and_from _ _ space refl) ∙ rest)
  | inr goes_on ↦ rw goes_on (by_place in_word ws (rw goes_on at long) unbroken (other_words true bs))
]
  where
    by_place : (in_word : Bool) (ws : List (List ℕ)) → length ws ≡ (if in_word then starts true bs else 1 + starts true
        bs)
        → list_all is_unbroken ws ≡ true
        → ((ws : List (List ℕ)) → length ws ≡ starts true bs → list_all is_unbroken ws ≡ true
        → texts (with_words true bs ws) ≡ ws)
        → texts (if in_word then with_words true bs ws else next_word ws ++ with_words true bs (drop 1 ws)) ≡ ws
    by_place true ws long unbroken again = again ws long unbroken
    by_place false [] long unbroken again = absurd (omega (arith, long))
    by_place false (w ∷ ws) long unbroken again =
        let parts = and_parts (is_unbroken w) (list_all is_unbroken ws) unbroken in
        both_parts w (with_words true bs ws) (word_ends bs ws) ∙ ap (λ l. l ++ texts (with_words true bs ws))
        (joined_words (w ∷ []) (and_from _ _ parts.0 refl)) ∙ ap (λ l. w ∷ l) (again ws (omega (arith, long)) parts.1)

-- how many words other ones replace
pub replaced_count : (p : Piece) (ws : List (List ℕ)) → texts p.body ≡ spelling p.item
    → length ws ≡ length (spelling p.item) → length ws ≡ starts false p.body
replaced_count p ws is same = same ∙ ap length (sym is) ∙ words_count [] 1 p.body ∙ omega arith

-- the bytes of another item in the place of a piece
pub exchanged_are : (P : List ℕ → Type 0) (p : Piece) (j : Item) → P (join_with_byte 32 (spelling j))
    → (length (spelling j) ≡ length (spelling p.item) → P (with_words false p.body (spelling j)))
    → P (exchanged_bytes p j)
exchanged_are P p (entry kind words) joined same = joined
exchanged_are P p (timescale words) joined same = joined
exchanged_are P p (scope kind words) joined same = joined
exchanged_are P p upscope joined same = joined
exchanged_are P p (variable words) joined same =
    elim (cases_Bool (length (spelling (variable words)) == length (spelling p.item))) [
      | inl is ↦ rw is (same (eqb-true (length (spelling (variable words))) (length (spelling p.item)) is))
      | inr apart ↦ rw apart joined
    ]
exchanged_are P p end_definitions joined same = joined
exchanged_are P p (stamp digits) joined same = joined
exchanged_are P p (scalar digit code) joined same = joined
exchanged_are P p (vector first digits code) joined same = joined
exchanged_are P p (real_or_string first text code) joined same = joined
exchanged_are P p (dump_word word) joined same = joined
exchanged_are P p (other word words) joined same = joined

-- its words
pub exchanged_words : (p : Piece) (j : Item) → texts p.body ≡ spelling p.item → is_spelled j ≡ true
    → texts (exchanged_bytes p j) ≡ spelling j
exchanged_words p j is spelled = exchanged_are (λ bytes. texts bytes ≡ spelling j) p j (joined_words (spelling j)
    spelled) (λ same. other_words false p.body (spelling j) (replaced_count p (spelling j) is same) spelled)

-- ==== pieces

-- a run of bytes is an unbroken word
run_is_unbroken : (w : List ℕ) → is_run_text w ≡ true → is_unbroken w ≡ true
run_is_unbroken [] run = run
run_is_unbroken (b ∷ bs) run = (and_parts (not (length (b ∷ bs) == 0)) (list_all (λ b. not (is_white_space b)) (b ∷ bs))
    run).1

-- the words of bytes are unbroken
pub body_is_unbroken : (p : Piece) → word_texts (words_of p.body) ≡ spelling p.item → is_spelled p.item ≡ true
body_is_unbroken p is = ap (list_all is_unbroken) (sym is) ∙ all_weaker is_run_text is_unbroken run_is_unbroken
    (word_texts (words_of p.body)) (texts_of_file_are_runs p.body)

-- the items of pieces
abbrev pub items_of : List Piece → List Item
items_of ps = map (λ p. p.item) ps

abbrev pub HasSpace : Piece → Type 0
HasSpace p = list_all is_white_space p.space ≡ true

abbrev pub SpellsItem : Piece → Type 0
SpellsItem p = word_texts (words_of p.body) ≡ spelling p.item

abbrev pub HasSomeSpace : Piece → Type 0
HasSomeSpace p = 0 < length p.space
