use Rattle.vcd_hollow.proofs.shared.ReplaysWithOthers.{replay_keeps_outlines}
use Rattle.vcd_hollow.proofs.shared.SameSteps.{steps_are_of_outline}
use Rattle.vcd_hollow.proofs.laws.steps_are_of_outline.Goals as goal

pub returns-clause-steps : goal.returns-clause-steps
returns-clause-steps c = steps_are_of_outline

pub returns-clause-replay : goal.returns-clause-replay
returns-clause-replay c = replay_keeps_outlines
