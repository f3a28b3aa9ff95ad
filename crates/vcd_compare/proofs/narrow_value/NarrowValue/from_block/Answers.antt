use Rattle.std.proofs.Common.{arith}
use Rattle.vcd_compare.proofs.narrow_value.Blocks.{same_cut, block_is}
use Rattle.vcd_compare.proofs.narrow_value.NarrowValue.from_block.Goals as goal

pub invariant_of-result : goal.invariant_of-result
invariant_of-result c = record {
  least = c.requires.least;
  most = c.requires.most;
  block = block_is c.args.width c.lowest.result c.lowest-2.result c.args.block c.requires.most c.lowest.ensures
      c.lowest-2.ensures (omega (arith, c.lowest.type_inv)) (omega (arith, c.lowest-2.type_inv));
}

pub returns : goal.returns
returns c = same_cut c.args.width c.lowest.result c.lowest-2.result c.args.block c.requires.most c.lowest.ensures
    c.lowest-2.ensures
