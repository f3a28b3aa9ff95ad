use Rattle.vcd_edit.proofs.laws.ShortAndLongRuns as runs
use Rattle.vcd_edit.proofs.laws.deglitch_takes_short_runs_out.Goals as goal

pub returns-clause-none_left : goal.returns-clause-none_left
returns-clause-none_left c = runs.leaves_none

pub returns-clause-long_stay : goal.returns-clause-long_stay
returns-clause-long_stay c = runs.keeps_long

pub returns-clause-short_filled : goal.returns-clause-short_filled
returns-clause-short_filled c = runs.fills_short

pub returns-clause-unchanged : goal.returns-clause-unchanged
returns-clause-unchanged c = runs.without_short_runs

pub returns-clause-once : goal.returns-clause-once
returns-clause-once c = runs.twice
