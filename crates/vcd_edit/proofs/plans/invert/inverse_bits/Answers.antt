use Rattle.std.proofs.Common.{w64}
use Rattle.std.proofs.lemmas.Nat.Bits.{bit_at_not}
use Rattle.vcd_edit.proofs.plans.invert.inverse_bits.Goals as goal

pub returns : goal.returns
returns c = λ i inside. bit_at_not w64 c.args.bits i c.ranges.bits.fits inside
