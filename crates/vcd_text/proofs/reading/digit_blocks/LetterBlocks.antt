-- Letters that are read 64 at a time, from the last: a block with one more letter or eight, and a
-- row with one more block.
use Rattle.std.proofs.Common.{◌≡◌, ℕ, zero, suc, ◌+◌, ◌-◌, ◌*◌, ◌/◌, ◌%◌, ◌<◌, ◌≤◌, true, false, if◌then◌else◌, List}
use Rattle.std.proofs.Common.{[], ◌∷◌, ◌++◌, length, take, drop, get_or, refl, sym, ap, ◌∙◌, arith, inl, inr, add-one}
use Rattle.std.proofs.Common.{rules}
use Rattle.std.specs.Prelude.{unwrap_or, MatchOption, Option, Some, None}
use Rattle.std.specs.List.{list_all}
use Rattle.std.specs.Simd.{first_chunks}
use Rattle.std.proofs.Math.Seq.{take-add}
use Rattle.std.proofs.Math.ListN.{set}
use Rattle.std.proofs.lemmas.Bool.{cases_lt, cases_eq, lt-ltb, le-ltb, and_from, and_left, and_right}
use Rattle.std.proofs.lemmas.List.{get_or-take, get_or-drop, get_or_append_left, get_or-append_right, get_or-replicate}
use Rattle.std.proofs.lemmas.List.{get_or-set_same, get_or-set_other, length-append, length-take-le, length-drop}
use Rattle.std.proofs.lemmas.List.{length-map, length-replicate, take-map, drop-map, map-append, take-append-drop}
use Rattle.std.proofs.lemmas.List.{drop-drop, length-set}
use Rattle.std.proofs.lemmas.List.Folds.{drop_split, list_all-append}
use Rattle.vcd_core.specs.declared.bit.Bit.{Bit}
use Rattle.vcd_core.specs.declared.bit.Bit.TheVariants.{X}
use Rattle.vcd_core.specs.Value.{letter_at}
use Rattle.vcd_core.specs.declared.letter_block.LetterBlock.{LetterBlock}
use Rattle.vcd_core.specs.BlockRows.{letter_in, letter_or, letters_of, block_at, HoldsLetters}
use Rattle.vcd_core.proofs.shared.LettersOfPlanes.{same_letter_at, length-letters_of, letter_at-letters_of, one_block}
use Rattle.vcd_text.specs.Letters.{is_binary_digit, letter_of_digit, letters_of_digits, pad_letter, extension}
use Rattle.vcd_text.specs.inside.reading.DigitBlocks.{digits_of, AddsLetters, is_two_state}
use Rattle.vcd_text.proofs.shared.ItemTests.{all_weaker}

-- ---- one letter more

in_text : (pad : Bit) (s : List Bit) (i : ℕ) → i < length s → letter_or pad s i ≡ letter_at s i
in_text pad s i within = ap (λ b. if b then letter_at s i else pad) (lt-ltb i (length s) within)

past_text : (pad : Bit) (s : List Bit) (i : ℕ) → length s ≤ i → letter_or pad s i ≡ pad
past_text pad s i past = ap (λ b. if b then letter_at s i else pad) (le-ltb i (length s) past)

other_letter : (pad : Bit) (s : List Bit) (b : Bit) (i : ℕ) → letter_or pad (s ++ b ∷ []) (i + 1) ≡ letter_or pad s i
other_letter pad s b i = grind (arith, length-append, cases_lt, in_text, get_or_append_left, past_text)

-- the letters from bit 0 on
held : (pad : Bit) (s : List Bit) (block : LetterBlock) → HoldsLetters pad s 0 block → (i : ℕ) → i < 64
    → letter_in block i ≡ letter_or pad s i
held pad s block holds i inside = holds.each i inside ∙ ap (letter_or pad s) (let e : 0 + i ≡ i = omega arith in e)

holds_each : (pad : Bit) (s : List Bit) (block : LetterBlock)
    → ((i : ℕ) → i < 64 → letter_in block i ≡ letter_or pad s i) → HoldsLetters pad s 0 block
holds_each pad s block each = grind arith

-- ---- more letters below those that a block holds

pub adds_one : (b : Bit) (old new : LetterBlock) → letter_in new 0 ≡ b
    → ((i : ℕ) → i + 1 < 64 → letter_in new (i + 1) ≡ letter_in old i) → AddsLetters (b ∷ []) old new
adds_one b old new first rest = λ pad s holds. holds_each pad (s ++ b ∷ []) new (each pad s holds)
  where
    each : (pad : Bit) (s : List Bit) → HoldsLetters pad s 0 old → (i : ℕ) → i < 64
        → letter_in new i ≡ letter_or pad (s ++ b ∷ []) i
    each pad s holds zero inside = first ∙ sym (grind (arith, length-append, in_text, get_or-append_right))
    each pad s holds (suc i) inside =
        let more : i + 1 ≡ suc i = add-one i in
        ap (letter_in new) (sym more) ∙ rest i (omega arith) ∙ held pad s old holds i (omega arith)
        ∙ sym (ap (letter_or pad (s ++ b ∷ [])) (sym more) ∙ other_letter pad s b i)

-- eight digits of those in eights
pub eight_at : (count i : ℕ) (digits : List ℕ) → i < count
    → get_or (first_chunks 8 count digits) i [] ≡ take 8 (drop (8 * i) digits)
eight_at zero i digits within = absurd (omega arith)
eight_at (suc count) zero digits within = refl
eight_at (suc count) (suc i) digits within =
    let index : 8 + 8 * i ≡ 8 * suc i = omega arith in
    eight_at count i (drop 8 digits) (omega arith)
    ∙ ap (take 8) (drop-drop (8 * i) 8 digits ∙ ap (λ n. drop n digits) index)

-- the digits up to eight, and these
pub eight_more : (digits : List ℕ) (i : ℕ)
    → take (8 * i) digits ++ take 8 (drop (8 * i) digits) ≡ take (8 * (i + 1)) digits
eight_more digits i =
    let index : 8 * i + 8 ≡ 8 * (i + 1) = omega arith in
    sym (take-add (8 * i) 8 digits) ∙ ap (λ n. take n digits) index

-- digits in front, and others after them
pub holds_both : (pad : Bit) (prefix back all : List ℕ) (old new : LetterBlock) → prefix ++ back ≡ all
    → HoldsLetters pad (letters_of_digits prefix) 0 old → AddsLetters (letters_of_digits back) old new
    → HoldsLetters pad (letters_of_digits all) 0 new
holds_both pad prefix back all old new whole holds adds = grind (arith, map-append)

pub both_are_digits : (prefix back all : List ℕ) → prefix ++ back ≡ all → list_all is_binary_digit prefix ≡ true
    → list_all is_binary_digit back ≡ true → list_all is_binary_digit all ≡ true
both_are_digits prefix back all whole first second = grind (arith, list_all-append, and_from)

-- digits that are added to letters which are all `pad`
pub first_digits : (pad : Bit) (digits : List ℕ) (old : LetterBlock) (o : Option LetterBlock)
    → ((i : ℕ) → i < 64 → letter_in old i ≡ pad)
    → MatchOption o (list_all is_binary_digit digits ≡ false)
    (λ w. (list_all is_binary_digit digits ≡ true) × AddsLetters (letters_of_digits digits) old w)
    → MatchOption o (list_all is_binary_digit digits ≡ false)
    (λ w. (list_all is_binary_digit digits ≡ true) × HoldsLetters pad (letters_of_digits digits) 0 w)
first_digits pad digits old None filled none = none
first_digits pad digits old (Some w) filled (letters, adds) = (
  letters,
  adds pad [] (holds_each pad [] old (λ i inside. filled i inside ∙ sym (past_text pad [] i (omega arith)))),
)

-- ---- one block more

-- the letters of the first blocks of a row
pub record RowHolds (pad : Bit) (s : List Bit) (count : ℕ) (blocks : List LetterBlock) : Type 0 where
  pub each : (i : ℕ) → i < 64 * count → letter_in (block_at blocks (i / 64)) (i % 64) ≡ letter_or pad s i

-- the letters of a block are those of the text
part_letter : (pad : Bit) (digits : List ℕ) (k i : ℕ) → i < 64
    → letter_or pad (letters_of_digits (digits_of digits k)) i ≡ letter_or pad (letters_of_digits digits) (64 * k + i)
part_letter pad digits k i inside =
    let end : ℕ = length digits - 64 * k in
    let from : ℕ = end - 64 in
    let s = letters_of_digits digits in
    let all : length s ≡ length digits = length-map digits (λ b. unwrap_or (letter_of_digit b) X) in
    let part : letters_of_digits (digits_of digits k) ≡ take (end - from) (drop from s) =
    grind (arith, drop-map, take-map) in
    let long : length (take (end - from) (drop from s)) ≡ end - from = grind (arith, length-take-le, length-drop) in
    ap (λ l. letter_or pad l i) part ∙ elim (cases_lt i (end - from)) [
      | inl within ↦
          grind (arith, in_text, get_or-take, get_or-drop)
      | inr past ↦ grind (arith, past_text)
    ]

pub row_more : (pad : Bit) (digits : List ℕ) (blocks : List LetterBlock) (k : ℕ) (block : LetterBlock)
    → k < length blocks
    → RowHolds pad (letters_of_digits digits) k blocks → HoldsLetters pad (letters_of_digits (digits_of digits k)) 0
    block → RowHolds pad (letters_of_digits digits) (k + 1) (set blocks k block)
row_more pad digits blocks k block within before holds = record {
  each = λ i below. elim (cases_eq (i / 64) k) [
    | inl here ↦
        grind (arith, get_or-set_same, held, part_letter)
    | inr elsewhere ↦ grind (arith, get_or-set_other)
  ];
}
  where
    no_block : LetterBlock
    no_block = record { low = 0; high = 0 }

-- ---- which digits are letters

-- the letters of one more block
pub letters_more : (digits : List ℕ) (k : ℕ) → list_all is_binary_digit (drop (length digits - 64 * k) digits) ≡ true
    → list_all is_binary_digit (digits_of digits k) ≡ true
    → list_all is_binary_digit (drop (length digits - 64 * (k + 1)) digits) ≡ true
letters_more digits k following here =
    let end : ℕ = length digits - 64 * k in
    let start : length digits - 64 * (k + 1) ≡ end - 64 = omega arith in
    ap (λ n. list_all is_binary_digit (drop n digits)) start
    ∙ ap (list_all is_binary_digit) (drop_split digits (end - 64) end (omega arith))
    ∙ list_all-append is_binary_digit (digits_of digits k) (drop end digits) ∙ and_from _ _ here following

pub two_states_are_digits : (digits : List ℕ) → list_all is_two_state digits ≡ true
    → list_all is_binary_digit digits ≡ true
two_states_are_digits digits all = all_weaker is_two_state is_binary_digit one digits all
  where
    one : (digit : ℕ) → is_two_state digit ≡ true → is_binary_digit digit ≡ true
    one digit two = search rules

-- if not all bytes after an index, or before it, are digits, not all are
pub not_all_after : (n : ℕ) (digits : List ℕ) → list_all is_binary_digit (drop n digits) ≡ false
    → list_all is_binary_digit digits ≡ false
not_all_after n digits none = ap (list_all is_binary_digit) (sym (take-append-drop n digits)) ∙ list_all-append
    is_binary_digit (take n digits) (drop n digits) ∙ and_right _ _ none

pub not_all_before : (n : ℕ) (digits : List ℕ) → list_all is_binary_digit (take n digits) ≡ false
    → list_all is_binary_digit digits ≡ false
not_all_before n digits none = ap (list_all is_binary_digit) (sym (take-append-drop n digits)) ∙ list_all-append
    is_binary_digit (take n digits) (drop n digits) ∙ and_left _ _ none

-- if a byte of a word is no digit, not all are
pub no_letter : (digits : List ℕ) (k : ℕ) → list_all is_binary_digit (digits_of digits k) ≡ false
    → list_all is_binary_digit digits ≡ false
no_letter digits k none = grind (arith, not_all_after, not_all_before)

-- ---- all blocks

-- the letter at a place of joined lists
ruleset letter_places = (letter_at-letters_of, get_or-append_right, get_or_append_left, get_or-replicate)

-- a row that holds all letters is the extension
pub row_is_extension : (width count : ℕ) (s : List Bit) (blocks : List LetterBlock) → length s ≤ width
    → width ≤ 64 * count → RowHolds (pad_letter s) s count blocks → letters_of width blocks ≡ extension width s
row_is_extension width count s blocks fits covers row =
    let long = length-letters_of width blocks in
    grind (arith, long, length-append, length-replicate, same_letter_at, cases_lt, letter_places)

-- a block that holds all letters is the extension, if the width is at most 64
pub block_is_extension : (width : ℕ) (s : List Bit) (block : LetterBlock) → length s ≤ width → width ≤ 64
    → HoldsLetters (pad_letter s) s 0 block → letters_of width (block ∷ []) ≡ extension width s
block_is_extension width s block fits narrow holds =
    row_is_extension width 1 s (block ∷ []) fits (omega arith) (grind (arith, one_block, held))

pub ruleset extension_steps = (row_more, letters_more, row_is_extension, no_letter, length-set, length-map)
