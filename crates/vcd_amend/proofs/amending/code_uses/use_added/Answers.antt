use Rattle.std.proofs.Common.{◌∙◌, arith}
use Rattle.vcd_amend.proofs.amending.UsedCodes.{one_used}
use Rattle.vcd_amend.proofs.amending.code_uses.use_added.Goals as goal

pub loop-variable-preserved : goal.loop-variable-preserved
loop-variable-preserved c = record {
  used = λ key.
      let k = c.loop-variable.variable-index in
      c.in_ok-use_code.ensures.used key
      ∙ one_used c.args.added.now k c.variable-item.result key _ _ _ (omega arith) c.variable-item.is
      c.as_slice.ensures (c.loop-variable.invariant.used key);
  amended = λ key. c.in_ok-use_code.ensures.amended key ∙ c.loop-variable.invariant.amended key;
}
