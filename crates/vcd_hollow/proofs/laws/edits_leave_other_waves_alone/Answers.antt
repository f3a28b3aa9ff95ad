use Rattle.vcd_hollow.proofs.shared.EditsWithOthers.{others_keep_outline, effect_with_others, others_fit_effect}
use Rattle.vcd_hollow.proofs.laws.edits_leave_other_waves_alone.Goals as goal

pub returns-clause-outline : goal.returns-clause-outline
returns-clause-outline c = others_keep_outline

pub returns-clause-effect : goal.returns-clause-effect
returns-clause-effect c = effect_with_others

pub returns-clause-fit : goal.returns-clause-fit
returns-clause-fit c = others_fit_effect
