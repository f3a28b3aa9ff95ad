use Rattle.std.proofs.Common.{refl}
use Rattle.vcd_compare.specs.LeftOut.{replaced_of}
use Rattle.vcd_compare.proofs.left_out.LeftOut.nothing.Goals as goal

pub returns : goal.returns
unfolding replaced_of
returns c = refl
