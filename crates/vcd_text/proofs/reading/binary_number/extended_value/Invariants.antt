-- The letters of the words so far are in the row.
use Rattle.std.proofs.Common.{◌≡◌, ◌-◌, ◌*◌, true, drop, length}
use Rattle.std.specs.List.{list_all}
use Rattle.vcd_core.specs.declared.value.TheConstants.{BLOCKS}
use Rattle.vcd_text.specs.Letters.{is_binary_digit, letters_of_digits}
use Rattle.vcd_text.proofs.reading.digit_blocks.LetterBlocks.{RowHolds}
use Rattle.vcd_text.proofs.reading.binary_number.extended_value.Given as goal

abbrev pub invariant-loop-k : goal.invariant-loop-k
invariant-loop-k l = record {
  row : RowHolds l.pad (letters_of_digits l.digits) l.k l.blocks;
  letters : list_all is_binary_digit (drop (length l.digits - 64 * l.k) l.digits) ≡ true;
  sized : length l.blocks ≡ BLOCKS;
}
