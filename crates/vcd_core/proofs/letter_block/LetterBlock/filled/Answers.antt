use Rattle.std.proofs.Common.{◌∙◌, sym}
use Rattle.vcd_core.specs.BlockRows.{letter_of}
use Rattle.vcd_core.proofs.shared.LettersOfPlanes.{letter_of-letter}
use Rattle.vcd_core.proofs.letter_block.LetterBlock.filled.Goals as goal

pub returns : goal.returns
returns c = λ i inside.
    (λ p. letter_of ((c.repeated.ensures i inside ∙ sym c.has_low_bit.ensures) p)
    ((c.repeated-2.ensures i inside ∙ sym c.has_high_bit.ensures) p))
    ∙ letter_of-letter c.args.letter
