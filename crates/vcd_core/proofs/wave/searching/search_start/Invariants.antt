use Rattle.std.proofs.Common.{◌≤◌}
use Rattle.vcd_core.proofs.wave.searching.search_start.Given as goal

abbrev pub invariant-loop-index : goal.invariant-loop-index
invariant-loop-index l = record {
  within : l.index ≤ l.near;
  goes : 1 ≤ l.step;
}

abbrev pub decreases-loop-index : goal.decreases-loop-index
decreases-loop-index l = l.index
