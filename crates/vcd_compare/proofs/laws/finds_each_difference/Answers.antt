use Rattle.vcd_compare.proofs.shared.FoundDifferences.{differences_of_window, differences_rise}
use Rattle.vcd_compare.proofs.laws.finds_each_difference.Goals as goal

pub returns-clause-each : goal.returns-clause-each
returns-clause-each c = differences_of_window

pub returns-clause-rise : goal.returns-clause-rise
returns-clause-rise c = differences_rise
