use Rattle.vcd_core.proofs.shared.Waves.{changes_rise, changes_end}
use Rattle.vcd_core.proofs.laws.changes_are_wave.Goals as goal

pub returns : goal.returns
returns c = λ width end f wide. (changes_rise width end f wide, changes_end width end f)
