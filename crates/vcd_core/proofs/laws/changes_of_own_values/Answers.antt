use Rattle.vcd_core.proofs.shared.Waves.{changes_of-value_at}
use Rattle.vcd_core.proofs.laws.changes_of_own_values.Goals as goal

pub returns : goal.returns
returns c = changes_of-value_at
