-- Bit by bit.
use Rattle.vcd_text.proofs.writing.values.LetterBits.{needed_bit}
use Rattle.vcd_text.proofs.writing.values.needed_letters.Goals as goal

pub returns : goal.returns
returns c = λ i inside. needed_bit c.args.low c.args.high i c.ranges.low.fits c.ranges.high.fits inside
