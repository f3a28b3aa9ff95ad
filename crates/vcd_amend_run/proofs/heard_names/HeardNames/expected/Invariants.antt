use Rattle.std.proofs.Common.{length}
use Rattle.vcd_amend_run.proofs.heard_names.HeardNames.expected.Given as goal

abbrev pub decreases-loop-line : goal.decreases-loop-line
decreases-loop-line l = length l.rest
