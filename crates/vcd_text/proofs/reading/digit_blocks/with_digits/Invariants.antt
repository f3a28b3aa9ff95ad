-- The letters so far are added.
use Rattle.std.proofs.Common.{◌≡◌, true, take}
use Rattle.std.specs.List.{list_all}
use Rattle.vcd_text.specs.Letters.{is_binary_digit, letters_of_digits}
use Rattle.vcd_text.specs.inside.reading.DigitBlocks.{AddsLetters}
use Rattle.vcd_text.proofs.reading.digit_blocks.with_digits.Given as goal

abbrev pub invariant-loop-digit : goal.invariant-loop-digit
invariant-loop-digit l = record {
  adds : AddsLetters (letters_of_digits (take l.digit-index l.digits)) l.fn.block l.block;
  letters : list_all is_binary_digit (take l.digit-index l.digits) ≡ true;
}
