use Rattle.std.proofs.Common.{◌∙◌, arith}
use Rattle.std.proofs.lemmas.List.{length-set}
use Rattle.vcd_edit.proofs.plans.invert.InversePiece.{shows_none, shows_more, shows_all}
use Rattle.vcd_edit.proofs.plans.invert.write_inverse.Goals as goal

pub loop-j-init : goal.loop-j-init
loop-j-init c = record { shows = shows_none c.args.value.now c.args.blocks.now; sized = c.requires }

pub loop-j-preserved : goal.loop-j-preserved
loop-j-preserved c = record {
  shows = shows_more c.args.value.now c.loop-j.blocks c.loop-j.j c.block.result _
      (omega (arith, c.loop-j.invariant.sized, c.loop-j-test.true, c.blocks_in-j-end.ensures.most))
      c.block.ensures c.inverse_block.ensures c.loop-j.invariant.shows;
  sized = length-set c.loop-j.blocks c.loop-j.j _ ∙ c.loop-j.invariant.sized;
}

pub returns-clause-shows : goal.returns-clause-shows
returns-clause-shows c = shows_all c.args.value.now c.loop-j.blocks _ (omega arith) c.loop-j.invariant.shows
