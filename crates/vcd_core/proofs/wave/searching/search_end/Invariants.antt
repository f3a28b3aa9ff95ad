use Rattle.std.proofs.Common.{◌≤◌, ◌-◌, length}
use Rattle.vcd_core.proofs.wave.searching.search_end.Given as goal

abbrev pub invariant-loop-index : goal.invariant-loop-index
invariant-loop-index l = record {
  from : l.near ≤ l.index;
  within : l.index ≤ length l.changes;
  goes : 1 ≤ l.step;
}

abbrev pub decreases-loop-index : goal.decreases-loop-index
decreases-loop-index l = length l.changes - l.index
