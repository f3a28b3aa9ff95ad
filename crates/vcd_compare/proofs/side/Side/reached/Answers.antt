use Rattle.std.proofs.Common.{◌*◌, ◌∙◌}
use Rattle.vcd_compare.proofs.side.Side.reached.Goals as goal

pub returns : goal.returns
returns c state at = λ i. (c.from.ensures ∙ c.tick.ensures state at) i * c.from-2.ensures i
