use Rattle.std.proofs.Common.{◌∙◌, sym}
use Rattle.vcd_core.specs.BlockRows.{letter_of}
use Rattle.vcd_core.proofs.shared.LettersOfPlanes.{letter_of-letter}
use Rattle.vcd_core.proofs.letter_block.LetterBlock.with_letter.Goals as goal

pub returns-clause-lowest : goal.returns-clause-lowest
returns-clause-lowest c =
    (λ p. letter_of ((c.with_lowest.ensures.lowest ∙ sym c.has_low_bit.ensures) p)
    ((c.with_lowest-2.ensures.lowest ∙ sym c.has_high_bit.ensures) p))
    ∙ letter_of-letter c.args.letter

pub returns-clause-rest : goal.returns-clause-rest
returns-clause-rest c = λ i inside.
    (λ p. letter_of (c.with_lowest.ensures.rest i inside p) (c.with_lowest-2.ensures.rest i inside p))
