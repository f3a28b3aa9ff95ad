use Rattle.std.proofs.Common.{◌∙◌, arith}
use Rattle.vcd_core.specs.declared.value.TheConstants.{BLOCKS}
use Rattle.vcd_core.proofs.shared.LettersOfPlanes.{letters_of-replicate}
use Rattle.vcd_core.proofs.value.Value.filled.Goals as goal

pub returns : goal.returns
returns c = c.from_blocks.ensures
    ∙ letters_of-replicate c.args.width BLOCKS _ c.args.bit (omega arith) c.filled.ensures
