use Rattle.std.proofs.Common.{◌∙◌, arith, refl}
use Rattle.std.proofs.lemmas.List.{length-set}
use Rattle.vcd_core.specs.declared.value.TheConstants.{BLOCKS}
use Rattle.vcd_core.proofs.planes.WrittenBits.{none_held, one_more}
use Rattle.vcd_core.proofs.shared.LettersOfPlanes.{letters_in-blocks}
use Rattle.vcd_core.proofs.planes.planes_of_blocks.Goals as goal

pub loop-j-init : goal.loop-j-init
loop-j-init c = record {
  sized = refl;
  left = omega arith;
  holds = none_held BLOCKS c.args.width _;
}

pub loop-j-preserved : goal.loop-j-preserved
loop-j-preserved c = rw c.ones-mask.ensures (record {
  sized = length-set _ _ _ ∙ length-set _ _ _ ∙ c.loop-j.invariant.sized;
  left = omega arith;
  holds = one_more BLOCKS c.args.width c.loop-j.j c.loop-j.left c.loop-j.planes _ (omega arith) (omega arith)
      c.loop-j.invariant.left c.loop-j.invariant.holds;
})

pub returns-clause-letters : goal.returns-clause-letters
returns-clause-letters c = letters_in-blocks BLOCKS c.args.width c.loop-j.j _ _ c.loop-j.invariant.holds (omega arith)

pub returns-clause-planes : goal.returns-clause-planes
returns-clause-planes c = record {
  sized = c.loop-j.invariant.sized;
  small = c.words_fit.ensures;
  clear = c.loop-j.invariant.holds.clear;
}
