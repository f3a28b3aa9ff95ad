use Rattle.std.proofs.Common.{arith, refl}
use Rattle.vcd_core.specs.declared.value.TheConstants.{BLOCKS}
use Rattle.vcd_core.proofs.planes.WrittenBits.{block_held}
use Rattle.vcd_core.proofs.shared.LettersOfPlanes.{letters_in-blocks}
use Rattle.vcd_core.proofs.planes.planes_of_block.Goals as goal

pub returns-clause-letters : goal.returns-clause-letters
returns-clause-letters c = letters_in-blocks BLOCKS c.args.width 1 _ _
    (block_held BLOCKS c.args.width _ c.args.block (omega arith) c.ones-mask.ensures) (omega (arith, c.requires))

pub returns-clause-planes : goal.returns-clause-planes
returns-clause-planes c = record {
  sized = refl;
  small = c.words_fit.ensures;
  clear = (block_held BLOCKS c.args.width _ c.args.block (omega arith) c.ones-mask.ensures).clear;
}
