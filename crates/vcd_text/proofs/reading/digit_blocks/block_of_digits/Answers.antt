use Rattle.vcd_text.proofs.reading.digit_blocks.LetterBlocks.{first_digits}
use Rattle.vcd_text.proofs.reading.digit_blocks.block_of_digits.Goals as goal

pub returns-then-digits-lt8 : goal.returns-then-digits-lt8
returns-then-digits-lt8 c = first_digits c.args.pad c.args.digits.now _ c.with_digits.result c.filled.ensures
    c.with_digits.ensures
