-- The letters of the lowest bits are at the end, and the others are left.
use Rattle.std.proofs.Common.{◌≡◌, ◌<◌, ◌+◌, ◌-◌, ◌*◌, ℕ, length, slice_index}
use Rattle.vcd_core.specs.Value.{printed_letter}
use Rattle.vcd_core.specs.BlockRows.{letter_in}
use Rattle.vcd_text.proofs.writing.values.fill_letters.Given as goal

abbrev pub invariant-loop-k : goal.invariant-loop-k
invariant-loop-k l = record {
  sized : length l.letters ≡ 64;
  written : (i : ℕ) → i < 2 * l.k → slice_index l.letters (63 - i) ≡ printed_letter (letter_in l.fn.block i);
  left : (i : ℕ) → letter_in l.left i ≡ letter_in l.fn.block (2 * l.k + i);
}
