use Rattle.vcd_amend_run.proofs.laws.AmendedRuns.{remaining_then_derived, remaining_are_of_variables}
use Rattle.vcd_amend_run.proofs.laws.AmendedRuns.{remaining_by_hollow}
use Rattle.vcd_amend_run.proofs.laws.signals_remain.Goals as goal

pub returns-clause-order : goal.returns-clause-order
returns-clause-order c = remaining_then_derived

pub returns-clause-variables : goal.returns-clause-variables
returns-clause-variables c = remaining_are_of_variables

pub returns-clause-hollow : goal.returns-clause-hollow
returns-clause-hollow c = remaining_by_hollow
