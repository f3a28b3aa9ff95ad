use Rattle.vcd_compare.proofs.shared.Tolerance.{none_stands_if_same}
use Rattle.vcd_compare.proofs.laws.same_without_tolerance.Goals as goal

pub returns : goal.returns
returns g c = none_stands_if_same g.V.PartialEq.eq
