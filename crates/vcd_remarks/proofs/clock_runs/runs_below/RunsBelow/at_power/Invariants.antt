use Rattle.std.proofs.Common.{◌≡◌}
use Rattle.vcd_remarks.specs.inside.RunsBelow.{count_to}
use Rattle.vcd_remarks.proofs.clock_runs.runs_below.RunsBelow.at_power.Given as goal

-- the runs of so many bits are counted
abbrev pub invariant-loop-bits : goal.invariant-loop-bits
invariant-loop-bits l = l.count ≡ count_to l.self.of_bits l.bits
