use Rattle.vcd_hollow.proofs.shared.CommandsOfOutline.{command_is_of_outline}
use Rattle.vcd_hollow.proofs.shared.HollowRuns.{history_is_of_outline, asked_is_of_outline}
use Rattle.vcd_hollow.proofs.laws.lines_are_of_outline.Goals as goal

pub returns-clause-command : goal.returns-clause-command
returns-clause-command c = command_is_of_outline

pub returns-clause-history : goal.returns-clause-history
returns-clause-history c = history_is_of_outline

pub returns-clause-asked : goal.returns-clause-asked
returns-clause-asked c = asked_is_of_outline
