use Rattle.std.proofs.Common.{◌≡◌, ◌+◌, ◌*◌, ◌/◌, ◌<◌, true, false, ℕ, [], List, Option, Some, None, length, take, drop}
use Rattle.std.proofs.Common.{get_or, rules, sym, ap, ◌∙◌, arith}
use Rattle.std.specs.Prelude.{MatchOption}
use Rattle.std.specs.List.{list_all}
use Rattle.std.specs.Simd.{first_chunks}
use Rattle.std.proofs.lemmas.List.{take-append-drop}
use Rattle.vcd_core.specs.declared.bit.Bit.{Bit}
use Rattle.vcd_core.specs.declared.letter_block.LetterBlock.{LetterBlock}
use Rattle.vcd_core.specs.BlockRows.{HoldsLetters}
use Rattle.vcd_text.specs.Letters.{is_binary_digit, letters_of_digits}
use Rattle.vcd_text.specs.inside.reading.DigitBlocks.{AddsLetters}
use Rattle.vcd_text.proofs.reading.digit_blocks.LetterBlocks.{eight_at, eight_more, holds_both, both_are_digits}
use Rattle.vcd_text.proofs.reading.digit_blocks.LetterBlocks.{not_all_after, not_all_before}
use Rattle.vcd_text.proofs.reading.digit_blocks.block_of_eights.Goals as goal

-- the digits of one of the eights
eight_digits : (digits : List ℕ) (eights : List (List ℕ)) (i : ℕ) → eights ≡ first_chunks 8 (length digits / 8) digits
    → i < length digits / 8 → get_or eights i [] ≡ take 8 (drop (8 * i) digits)
eight_digits digits eights i prefix within = ap (λ l. get_or l i []) prefix ∙ eight_at (length digits / 8) i digits
    within

pub returns-in_err-block : goal.returns-in_err-block
returns-in_err-block c =
    let digits = c.args.digits.now in
    let i = c.loop-eight.eight-index in
    let at = eight_digits digits _ i c.as_chunks.ensures.front
    (omega (arith, c.loop-eight-test.true, c.as_chunks.ensures.front_len)) in
    let none : list_all is_binary_digit digits ≡ false = not_all_after (8 * i) digits
    (not_all_before 8 (drop (8 * i) digits) (sym (ap (list_all is_binary_digit) at) ∙ c.in_err-block.ensures)) in
    search rules

pub loop-eight-preserved : goal.loop-eight-preserved
loop-eight-preserved c =
    let digits = c.args.digits.now in
    let i = c.loop-eight.eight-index in
    let at = eight_digits digits _ i c.as_chunks.ensures.front
    (omega (arith, c.loop-eight-test.true, c.as_chunks.ensures.front_len)) in
    let eight = take 8 (drop (8 * i) digits) in
    let block = c.in_ok-block.block in
    record {
      holds = holds_both c.args.pad (take (8 * i) digits) eight (take (8 * (i + 1)) digits) _ block
          (eight_more digits i) c.loop-eight.invariant.holds (rw at at c.in_ok-block.ensures.1);
      letters = both_are_digits (take (8 * i) digits) eight (take (8 * (i + 1)) digits) (eight_more digits i)
          c.loop-eight.invariant.letters (sym (ap (list_all is_binary_digit) at) ∙ c.in_ok-block.ensures.0);
    }

-- the letters of the eights, and of the rest after them
of_the_rest : (pad : Bit) (digits : List ℕ) (n : ℕ) (old : LetterBlock) (o : Option LetterBlock)
    → list_all is_binary_digit (take n digits) ≡ true → HoldsLetters pad (letters_of_digits (take n digits)) 0 old
    → MatchOption o (list_all is_binary_digit (drop n digits) ≡ false)
    (λ w. (list_all is_binary_digit (drop n digits) ≡ true) × AddsLetters (letters_of_digits (drop n digits)) old w)
    → MatchOption o (list_all is_binary_digit digits ≡ false) (λ w. (list_all is_binary_digit digits ≡ true)
    × HoldsLetters pad (letters_of_digits digits) 0 w)
of_the_rest pad digits n old None letters holds none = not_all_after n digits none
of_the_rest pad digits n old (Some w) letters holds (following, adds) = (
  both_are_digits (take n digits) (drop n digits) digits (take-append-drop n digits) letters following,
  holds_both pad (take n digits) (drop n digits) digits old w (take-append-drop n digits) holds adds,
)

pub returns : goal.returns
returns c =
    let digits = c.args.digits.now in
    let end : length digits / 8 * 8 ≡ 8 * c.loop-eight.eight-index =
    omega (arith, c.loop-eight-test.false, c.as_chunks.ensures.front_len) in
    let back = c.as_chunks.ensures.back ∙ ap (λ n. drop n digits) end in
    of_the_rest c.args.pad digits (8 * c.loop-eight.eight-index) _ c.with_digits.result c.loop-eight.invariant.letters
    c.loop-eight.invariant.holds (rw back at c.with_digits.ensures)
