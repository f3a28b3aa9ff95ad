use Rattle.vcd_stream.proofs.letters.BlockOfValue.{block_of_value}
use Rattle.vcd_stream.proofs.letters.LetterBlockLetters.of_value.Goals as goal

pub returns : goal.returns
returns c = block_of_value c.args.value.now c.block.result c.requires c.block.ensures
