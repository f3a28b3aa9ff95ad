use Rattle.vcd_edit.proofs.shared.EffectLaws.{invert_twice, invert_twice_without_z}
use Rattle.vcd_edit.proofs.laws.invert_twice.Goals as goal

pub returns-clause-values : goal.returns-clause-values
returns-clause-values c = invert_twice

pub returns-clause-without_z : goal.returns-clause-without_z
returns-clause-without_z c = invert_twice_without_z
