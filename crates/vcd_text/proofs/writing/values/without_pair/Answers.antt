-- Both words are shifted.
use Rattle.vcd_core.specs.BlockRows.{letter_of}
use Rattle.vcd_text.proofs.writing.values.LetterBits.{later_pair}
use Rattle.vcd_text.proofs.writing.values.without_pair.Goals as goal

pub returns : goal.returns
returns c = λ i. (λ p. letter_of (later_pair c.args.block.low i p) (later_pair c.args.block.high i p))
