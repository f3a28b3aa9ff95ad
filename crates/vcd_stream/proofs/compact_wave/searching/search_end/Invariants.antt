use Rattle.std.proofs.Common.{◌≤◌, ◌-◌, length}
use Rattle.vcd_stream.proofs.compact_wave.searching.search_end.Given as goal

abbrev pub invariant-loop-index : goal.invariant-loop-index
invariant-loop-index l = record {
  from : l.from ≤ l.index;
  within : l.index ≤ length l.ticks;
  goes : 1 ≤ l.step;
}

abbrev pub decreases-loop-index : goal.decreases-loop-index
decreases-loop-index l = length l.ticks - l.index
