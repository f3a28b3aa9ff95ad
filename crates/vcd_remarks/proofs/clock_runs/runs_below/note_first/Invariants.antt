use Rattle.std.proofs.Common.{◌≡◌, ℕ, ◌<◌, ◌≤◌, nat_le, length, get_or, [], if◌then◌else◌}
use Rattle.vcd_remarks.specs.inside.FoundTicks.{with_tick}
use Rattle.vcd_remarks.specs.inside.RunsBelow.{count_to, found_below}
use Rattle.vcd_remarks.proofs.clock_runs.runs_below.note_first.Given as goal

-- the tick is noted below the powers so far
abbrev pub invariant-loop-power : goal.invariant-loop-power
invariant-loop-power l = record {
  length : length l.first ≡ length l.initial.first;
  count : l.count ≡ count_to l.of_bits l.power;
  noted : (k : ℕ) → k < l.power → get_or l.first k []
      ≡ (if nat_le l.bits k then (with_tick (found_below l.of_bits l.initial.first k) l.tick).first
      else get_or l.initial.first k []);
  left : (k : ℕ) → l.power ≤ k → get_or l.first k [] ≡ get_or l.initial.first k [];
}
