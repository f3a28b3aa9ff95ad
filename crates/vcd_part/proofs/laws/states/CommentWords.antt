-- The comment of a part: its words are words, and its bytes spell it.
use Rattle.std.proofs.Common.{◌≡◌, ℕ, ◌∙◌, ◌<◌, ◌^◌, ◌==◌, Bool, true, false, not, List, [], ◌∷◌, ◌++◌}
use Rattle.std.proofs.Common.{refl, arith, if◌then◌else◌, decimal, codes, length, nat_lt}
use Rattle.std.specs.List.{list_all, prefix_len, suffix_len}
use Rattle.std.specs.Str.{bytes_eq}
use Rattle.std.specs.Char.{is_ascii_digit}
use Rattle.std.proofs.lemmas.Bool.{and_from, and_parts, and_right, or_from, false_from_ne_true, not_from_false}
use Rattle.std.proofs.lemmas.Bool.{lt-leb, leb-true, ne_eqb}
use Rattle.std.proofs.lemmas.Slice.Eq.{bytes_eq-Decides}
use Rattle.vcd_core.specs.Word.{is_white_space, is_word}
use Rattle.vcd_core.specs.declared.capture.TheConstants.{END_LIMIT}
use Rattle.vcd_core.specs.declared.capture.HeaderKind.TheVariants.{Comment}
use Rattle.vcd_text.specs.Words.{words_of}
use Rattle.vcd_text.specs.Items.{end_word, spelling, has_no_end_word, header_word}
use Rattle.vcd_text.specs.Grammar.{word_texts}
use Rattle.vcd_copy.specs.Pieces.{Piece}
use Rattle.vcd_text.specs.declared.reading.choice.TickRange.{TickRange}
use Rattle.vcd_text.proofs.read_back.Decimals.{decimal_digits, decimal_not_empty}
use Rattle.vcd_text.proofs.read_back.Words.{is_unbroken}
use Rattle.vcd_text.proofs.read_back.WholeText.{words_are_unbroken, with_end_unbroken}
use Rattle.vcd_text.proofs.shared.ItemTests.{all_weaker}
use Rattle.vcd_copy.proofs.pieces.Bytes.{texts_are, joined_words}
use Rattle.vcd_copy.proofs.shared.JoinedWords.{joined_tight}
use Rattle.vcd_part.specs.PartPieces.{comment_words, comment_piece, last_word, bounded_count}
use Rattle.vcd_part.proofs.laws.states.Windows.{IsInOrder}

-- ---- a decimal number is a word

abbrev is_dark : ℕ → Bool
is_dark b = not (is_white_space b)

digit_is_dark : (b : ℕ) → is_ascii_digit b ≡ true → is_dark b ≡ true
digit_is_dark b digit = grind (arith, leb-true, and_parts, not_from_false, or_from, and_right, lt-leb, ne_eqb)

digits_no_end : (bytes : List ℕ) → list_all is_ascii_digit bytes ≡ true → bytes_eq bytes (codes "$end") ≡ false
digits_no_end bytes digits = grind (arith, false_from_ne_true, bytes_eq-Decides)

decimal_is_word : (n : ℕ) → n < 2 ^ 64 → is_word (decimal n) ≡ true
decimal_is_word n small =
    let some : (length (decimal n) == 0) ≡ false =
    ne_eqb _ 0 (λ none. absurd (omega (arith, none, decimal_not_empty n small))) in
    let dark = all_weaker is_ascii_digit is_dark digit_is_dark (decimal n) (decimal_digits n small) in
    let other = digits_no_end (decimal n) (decimal_digits n small) in
    rw (some, dark, other) refl

-- ---- the words of the comment

module _ (w : TickRange) (order : IsInOrder w) (a b : ℕ) where
  abbrev words : List (List ℕ)
  words = comment_words w (bounded_count a) (bounded_count b)

  last_is_word : is_word (last_word w.last) ≡ true
  last_is_word = by_test (nat_lt END_LIMIT w.last)
    where
      by_test : (x : Bool) → is_word (if x then codes "end" else decimal w.last) ≡ true
      by_test true = refl
      by_test false = decimal_is_word w.last order.few

  pub are_words : list_all is_word words ≡ true
  are_words = and_from true _ refl (and_from true _ refl (and_from (is_word (decimal w.first)) _ (decimal_is_word
      w.first (omega (arith, order.order, order.few))) (and_from true _ refl (and_from (is_word (last_word w.last)) _
      last_is_word (and_from true _ refl (and_from (is_word (decimal (bounded_count a))) _ (decimal_is_word
      (bounded_count a) (omega arith)) (and_from true _ refl (and_from (is_word (decimal (bounded_count b))) true
      (decimal_is_word (bounded_count b) (omega arith)) refl))))))))

  pub no_end_word : has_no_end_word words ≡ true
  no_end_word = all_weaker is_word (λ w. not (bytes_eq w end_word)) (λ w word. (and_parts _ _ word).1) words are_words

  all_unbroken : list_all is_unbroken (header_word Comment ∷ words ++ end_word ∷ []) ≡ true
  all_unbroken = with_end_unbroken (header_word Comment ∷ words) (and_from true _ refl (words_are_unbroken words
      are_words))

  -- ---- its piece

  module _ (space : List ℕ) where
    abbrev piece : Piece
    piece = comment_piece w (bounded_count a) (bounded_count b) space

    pub comment_spelled : word_texts (words_of piece.body) ≡ spelling piece.item
    comment_spelled = texts_are piece.body ∙ joined_words (spelling piece.item) all_unbroken

    pub comment_tight : (prefix_len is_white_space piece.body ≡ 0) × (suffix_len is_white_space piece.body ≡ 0)
    comment_tight = joined_tight (spelling piece.item) (omega arith) all_unbroken
