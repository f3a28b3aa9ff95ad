use Rattle.std.proofs.Common.{◌≡◌, ◌≤◌}
use Rattle.vcd_remarks.specs.ClockRuns.{count_below}
use Rattle.vcd_remarks.specs.inside.ClockRuns.{is_often_reached}
use Rattle.vcd_remarks.specs.inside.RunsBelow.{at_power}
use Rattle.vcd_remarks.proofs.clock_runs.often_reached.Given as goal

-- the powers so far are counted
abbrev pub invariant-loop-power : goal.invariant-loop-power
invariant-loop-power l = record {
  few : l.count ≤ l.power;
  count : l.count ≡ count_below (is_often_reached (at_power l.below)) l.power;
}
