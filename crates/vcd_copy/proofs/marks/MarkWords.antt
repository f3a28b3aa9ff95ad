-- A mark is a comment: its words are words, and its bytes spell it.
use Rattle.std.proofs.Common.{◌≡◌, ℕ, ◌∙◌, ◌+◌, ◌<◌, ◌/◌, ◌%◌, ◌^◌, ◌==◌, ◌&&◌, Bool, true, false, not, List, []}
use Rattle.std.proofs.Common.{◌∷◌, ◌++◌, refl, ap, arith, if◌then◌else◌, decimal, codes, length, map, nat_lt}
use Rattle.std.specs.List.{list_all, flat_map, join_with_byte}
use Rattle.std.specs.Str.{bytes_eq}
use Rattle.std.specs.Char.{is_ascii_digit}
use Rattle.std.proofs.lemmas.Bool.{and_from, and_parts, false_from_ne_true}
use Rattle.std.proofs.lemmas.Bool.{ne_eqb}
use Rattle.std.proofs.lemmas.Bool.Decides.{nat_tests}
use Rattle.std.proofs.lemmas.Grind.{flat_map-append}
use Rattle.std.proofs.lemmas.List.Folds.{list_all-append}
use Rattle.std.proofs.lemmas.Slice.Eq.{bytes_eq-Decides}
use Rattle.vcd_core.specs.Word.{is_white_space, is_word}
use Rattle.vcd_text.specs.Words.{words_of}
use Rattle.vcd_text.specs.inside.Words.{words_from}
use Rattle.vcd_core.specs.declared.capture.HeaderKind.TheVariants.{Comment}
use Rattle.vcd_text.specs.Items.{entry, end_word, spelling, has_no_end_word}
use Rattle.vcd_text.specs.Grammar.{word_texts}
use Rattle.vcd_copy.specs.Marks.{IsMark}
use Rattle.vcd_copy.specs.MarkText.{hex_digit, hex_of_byte, is_plain, escaped_byte, escaped_word, word_in_comment}
use Rattle.vcd_copy.specs.MarkText.{title_words, read_words, line_words, later_lines, lines_of_mark, mark_words}
use Rattle.vcd_copy.specs.MarkText.{mark_with_edits}
use Rattle.vcd_copy.specs.MarkText.{EveryMarkIsComment}
use Rattle.vcd_copy.specs.declared.marking.head.MarkHead.{MarkHead}
use Rattle.vcd_text.proofs.read_back.Decimals.{decimal_digits, decimal_not_empty}
use Rattle.vcd_text.proofs.read_back.Words.{is_unbroken}
use Rattle.vcd_text.proofs.read_back.WholeText.{words_are_unbroken}
use Rattle.vcd_text.proofs.shared.ItemTests.{all_weaker}
use Rattle.vcd_text.proofs.shared.WordsInTurn.{is_run_text}
use Rattle.vcd_text.proofs.shared.WordsByBytes.{texts_of_file_are_runs}
use Rattle.vcd_copy.proofs.pieces.Bytes.{texts, texts_are, joined_words, both_parts, space_first, is_end}
use Rattle.vcd_copy.proofs.pieces.Cuts.{EndsInWord, ends_after, word_ends}

-- ---- bytes of words

-- neither white space nor `$`
abbrev is_inner : ℕ → Bool
is_inner b = not (is_white_space b) && not (b == 36)

inner_is_word : (w : List ℕ) → 0 < length w → list_all is_inner w ≡ true → is_word w ≡ true
inner_is_word [] some all = absurd (omega arith)
inner_is_word (b ∷ bs) some all =
    let first = and_parts (is_inner b) (list_all is_inner bs) all in
    let dark = all_weaker is_inner (λ c. not (is_white_space c)) (λ c inner. (and_parts _ _ inner).0) (b ∷ bs) all in
    let other : bytes_eq (b ∷ bs) end_word ≡ false =
    grind (arith, false_from_ne_true, bytes_eq-Decides, and_parts (not (is_white_space b)) (not (b == 36)) first.0) in
    let some_bytes : (length (b ∷ bs) == 0) ≡ false = ne_eqb (length (b ∷ bs)) 0 (λ none. absurd (omega arith)) in
    and_from _ _ (and_from _ _ (ap not some_bytes) dark) (ap not other)

high_is_inner : (b : ℕ) → 36 < b → is_inner b ≡ true
high_is_inner b high = grind (arith, nat_tests)

digit_is_inner : (n : ℕ) → is_inner (hex_digit n) ≡ true
digit_is_inner n = by_test (nat_lt n 10)
  where
    by_test : (x : Bool) → is_inner (if x then 48 + n else 87 + n) ≡ true
    by_test true = high_is_inner (48 + n) (omega arith)
    by_test false = high_is_inner (87 + n) (omega arith)

plain_is_inner : (b : ℕ) → is_plain b ≡ true → is_inner b ≡ true
plain_is_inner b plain = grind (arith, nat_tests, and_parts)

byte_is_inner : (b : ℕ) → list_all is_inner (escaped_byte b) ≡ true
byte_is_inner b = by_test (is_plain b) refl
  where
    by_test : (x : Bool) → is_plain b ≡ x
        → list_all is_inner (if x then b ∷ [] else 37 ∷ hex_of_byte b) ≡ true
    by_test true plain = and_from (is_inner b) true (plain_is_inner b plain) refl
    by_test false plain = and_from (is_inner (hex_digit (b / 16))) _ (digit_is_inner (b / 16))
        (and_from (is_inner (hex_digit (b % 16))) true (digit_is_inner (b % 16)) refl)

bytes_are_inner : (bs : List ℕ) → list_all is_inner (flat_map escaped_byte bs) ≡ true
bytes_are_inner [] = refl
bytes_are_inner (b ∷ bs) =
    list_all-append is_inner (escaped_byte b) (flat_map escaped_byte bs)
    ∙ and_from _ _ (byte_is_inner b) (bytes_are_inner bs)

byte_is_some : (b : ℕ) (rest : List ℕ) → 0 < length (escaped_byte b ++ rest)
byte_is_some b rest = by_test (is_plain b)
  where
    by_test : (x : Bool) → 0 < length ((if x then b ∷ [] else 37 ∷ hex_of_byte b) ++ rest)
    by_test true = omega arith
    by_test false = omega arith

-- ---- words

escaped_is_word : (bs : List ℕ) → is_word (escaped_word bs) ≡ true
escaped_is_word [] = refl
escaped_is_word (b ∷ bs) =
    inner_is_word (flat_map escaped_byte (b ∷ bs)) (byte_is_some b (flat_map escaped_byte bs))
    (bytes_are_inner (b ∷ bs))

digit_of_decimal : (b : ℕ) → is_ascii_digit b ≡ true → is_inner b ≡ true
digit_of_decimal b digit = grind (arith, nat_tests, and_parts)

decimal_is_word : (n : ℕ) → n < 2 ^ 64 → is_word (decimal n) ≡ true
decimal_is_word n small =
    inner_is_word (decimal n) (decimal_not_empty n small)
    (all_weaker is_ascii_digit is_inner digit_of_decimal (decimal n) (decimal_digits n small))

comment_word : (w : List ℕ) → is_run_text w ≡ true → is_word (word_in_comment w) ≡ true
comment_word w run = by_test (bytes_eq w end_word) refl
  where
    by_test : (x : Bool) → bytes_eq w end_word ≡ x → is_word (if x then codes "%24end" else w) ≡ true
    by_test true is = refl
    by_test false is = and_from _ _ run (ap not is)

comment_words : (ws : List (List ℕ)) → list_all is_run_text ws ≡ true
    → list_all is_word (map word_in_comment ws) ≡ true
comment_words [] runs = refl
comment_words (w ∷ ws) runs =
    let parts = and_parts (is_run_text w) (list_all is_run_text ws) runs in
    and_from _ _ (comment_word w parts.0) (comment_words ws parts.1)

line_is_words : (first line : List ℕ) → is_word first ≡ true → list_all is_word (line_words first line) ≡ true
line_is_words first line word =
    and_from (is_word first) _ word (comment_words (word_texts (words_of line)) (texts_of_file_are_runs line))

abbrev are_words : List (List (List ℕ)) → Bool
are_words lines = list_all (λ ws. list_all is_word ws) lines

lines_are_words : (first : List ℕ) (lines : List (List ℕ)) → is_word first ≡ true
    → are_words (map (line_words first) lines) ≡ true
lines_are_words first [] word = refl
lines_are_words first (line ∷ lines) word =
    and_from _ _ (line_is_words first line word) (lines_are_words first lines word)

all_words_of : (lines : List (List (List ℕ))) → are_words lines ≡ true
    → list_all is_word (flat_map (λ ws. ws) lines) ≡ true
all_words_of [] words = refl
all_words_of (ws ∷ lines) words =
    let parts = and_parts (list_all is_word ws) (are_words lines) words in
    list_all-append is_word ws (flat_map (λ ws. ws) lines) ∙ and_from _ _ parts.0 (all_words_of lines parts.1)

-- ---- lines

abbrev line_of : List (List ℕ) → List ℕ
line_of words = 10 ∷ join_with_byte 32 words

lines_end : (lines : List (List (List ℕ))) → is_end (flat_map (λ ws. line_of ws) lines) ≡ true
lines_end [] = refl
lines_end (ws ∷ lines) = refl

words_of_lines : (lines : List (List (List ℕ))) → list_all (λ ws. list_all is_unbroken ws) lines ≡ true
    → texts (flat_map (λ ws. line_of ws) lines) ≡ flat_map (λ ws. ws) lines
unfolding words_from
words_of_lines [] unbroken = refl
words_of_lines (ws ∷ lines) unbroken =
    let parts = and_parts (list_all is_unbroken ws) _ unbroken in
    let more : List ℕ = flat_map (λ ws. line_of ws) lines in
    space_first (10 ∷ []) (join_with_byte 32 ws ++ more) refl
    ∙ both_parts (join_with_byte 32 ws) more (lines_end lines)
    ∙ (λ i. joined_words ws parts.0 i ++ words_of_lines lines parts.1 i)

lines_unbroken : (lines : List (List (List ℕ))) → are_words lines ≡ true
    → list_all (λ ws. list_all is_unbroken ws) (lines ++ (end_word ∷ []) ∷ []) ≡ true
lines_unbroken [] words = refl
lines_unbroken (ws ∷ lines) words =
    let parts = and_parts (list_all is_word ws) (are_words lines) words in
    and_from _ _ (words_are_unbroken ws parts.0) (lines_unbroken lines parts.1)

-- the bytes end in `$end`
end_comes : (lines : List (List (List ℕ))) → EndsInWord (flat_map (λ ws. line_of ws) (lines ++ (end_word ∷ []) ∷ []))
end_comes [] = ends_after (10 ∷ []) end_word (word_ends end_word refl)
end_comes (ws ∷ lines) = ends_after (line_of ws) _ (end_comes lines)

-- ---- the comment

module _ (head : MarkHead) (edits : List (List ℕ)) where
  read_is_words : list_all is_word (read_words head) ≡ true
  read_is_words = and_from true _ refl (and_from (is_word (escaped_word head.name.now)) _
      (escaped_is_word head.name.now) (and_from (is_word (decimal head.size)) _ (decimal_is_word head.size head.fits)
      (and_from true _ refl (and_from true _ refl (and_from (is_word (escaped_word head.digest.now)) true
      (escaped_is_word head.digest.now) refl)))))

  version_is_word : is_word (escaped_word head.version.now) ≡ true
  version_is_word = escaped_is_word head.version.now

  later_are_words : are_words (later_lines head edits) ≡ true
  later_are_words =
      list_all-append (λ ws. list_all is_word ws) (map (line_words (codes "part")) head.part.now)
      (map (line_words (codes "edit")) edits)
      ∙ and_from _ _ (lines_are_words (codes "part") head.part.now refl) (lines_are_words (codes "edit") edits refl)

  all_words : list_all is_word (mark_words head edits) ≡ true
  all_words = and_from true _ refl (and_from (is_word (escaped_word head.version.now)) _ version_is_word
      (list_all-append is_word (read_words head) (flat_map (λ ws. ws) (later_lines head edits))
      ∙ and_from _ _ read_is_words (all_words_of (later_lines head edits) later_are_words)))

  no_end : has_no_end_word (mark_words head edits) ≡ true
  no_end = all_weaker is_word (λ w. not (bytes_eq w end_word)) (λ w word. (and_parts _ _ word).1)
      (mark_words head edits) all_words

  title_unbroken : list_all is_unbroken (title_words head) ≡ true
  title_unbroken = and_from true _ refl (and_from true _ refl
      (words_are_unbroken (escaped_word head.version.now ∷ []) (and_from _ true version_is_word refl)))

  spelled : word_texts (words_of (mark_with_edits head edits).bytes) ≡ spelling (entry Comment (mark_words head edits))
  spelled =
      texts_are (mark_with_edits head edits).bytes
      ∙ both_parts (join_with_byte 32 (title_words head)) _ refl
      ∙ (λ i. joined_words (title_words head) title_unbroken i
      ++ words_of_lines (lines_of_mark head edits) (and_from _ _ (words_are_unbroken (read_words head) read_is_words)
      (lines_unbroken (later_lines head edits) later_are_words)) i)
      ∙ ap (λ (ws : List (List ℕ)). title_words head ++ (read_words head ++ ws))
      (flat_map-append (λ ws. ws) (later_lines head edits) ((end_word ∷ []) ∷ []))

  ends : EndsInWord (mark_with_edits head edits).bytes
  ends = ends_after (join_with_byte 32 (title_words head)) _
      (ends_after (line_of (read_words head)) _ (end_comes (later_lines head edits)))

  is_comment : IsMark (mark_with_edits head edits)
  is_comment = record { no_end = no_end; spelled = spelled; tight = (refl, ends.ends) }

pub every_mark_is_comment : EveryMarkIsComment
every_mark_is_comment head edits = is_comment head edits
