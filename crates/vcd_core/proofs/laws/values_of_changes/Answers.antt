use Rattle.vcd_core.proofs.shared.Waves.{value_at-changes_of}
use Rattle.vcd_core.proofs.laws.values_of_changes.Goals as goal

pub returns : goal.returns
returns c = value_at-changes_of
