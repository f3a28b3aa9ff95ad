use Rattle.std.proofs.lemmas.Nat.Bits.{bit_at_ones, bit_at-zero}
use Rattle.vcd_core.proofs.letter_block.repeated.Goals as goal

pub returns-then-set : goal.returns-then-set
returns-then-set c = λ i inside. rw c.if-set.true (bit_at_ones 64 i inside)

pub returns-else-set : goal.returns-else-set
returns-else-set c = λ i inside. rw c.if-set.false (bit_at-zero i)
