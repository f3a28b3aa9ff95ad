use Rattle.std.proofs.Common.{◌∙◌}
use Rattle.vcd_core.proofs.shared.Pushes.{last_value-split, last_value-none}
use Rattle.vcd_core.proofs.wave.push.last_value.Goals as goal

pub returns-in-Some : goal.returns-in-Some
returns-in-Some c = last_value-split _ _ _ _ (c.in-Some.ensures.cases.0)

pub returns-in-None : goal.returns-in-None
returns-in-None c = c.filled.ensures ∙ last_value-none _ _ c.in-None.ensures.cases
