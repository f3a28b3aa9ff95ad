use Rattle.std.proofs.Common.{◌∙◌, arith}
use Rattle.vcd_core.specs.declared.bit.Bit.TheVariants.{X}
use Rattle.vcd_core.proofs.shared.LettersOfPlanes.{letters_of-replicate}
use Rattle.vcd_compare.proofs.narrow_value.NarrowValue.all_x.Goals as goal

pub returns : goal.returns
returns c = c.from_block.ensures
    ∙ letters_of-replicate c.args.width 1 c.filled.result X (omega (arith, c.requires.most)) c.filled.ensures
