-- The letters so far are added.
use Rattle.std.proofs.Common.{take}
use Rattle.vcd_text.specs.Letters.{letters_of_digits}
use Rattle.vcd_text.specs.inside.reading.DigitBlocks.{AddsLetters}
use Rattle.vcd_text.proofs.reading.digit_blocks.with_two_state_digits.Given as goal

abbrev pub invariant-loop-digit : goal.invariant-loop-digit
invariant-loop-digit l = record {
  adds : AddsLetters (letters_of_digits (take l.digit-index l.digits)) l.fn.block l.block;
}
