use Rattle.vcd_compare.proofs.shared.Tolerance.{none_stands}
use Rattle.vcd_compare.proofs.laws.same_within_tolerance.Goals as goal

pub returns : goal.returns
returns g c = none_stands g.V.PartialEq.eq
