-- The letters of the eights so far are at the low end of the block.
use Rattle.std.proofs.Common.{◌≡◌, ◌*◌, true, take}
use Rattle.std.specs.List.{list_all}
use Rattle.vcd_text.specs.Letters.{is_binary_digit, letters_of_digits}
use Rattle.vcd_core.specs.BlockRows.{HoldsLetters}
use Rattle.vcd_text.proofs.reading.digit_blocks.block_of_eights.Given as goal

abbrev pub invariant-loop-eight : goal.invariant-loop-eight
invariant-loop-eight l = record {
  holds : HoldsLetters l.fn.pad (letters_of_digits (take (8 * l.eight-index) l.digits)) 0 l.block;
  letters : list_all is_binary_digit (take (8 * l.eight-index) l.digits) ≡ true;
}
