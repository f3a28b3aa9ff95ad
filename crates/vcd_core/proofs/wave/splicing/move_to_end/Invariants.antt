use Rattle.std.proofs.Common.{◌≡◌, ◌≤◌, ◌-◌, length}
use Rattle.vcd_core.specs.Splice.{moved_change}
use Rattle.vcd_core.proofs.wave.splicing.MovedChanges.{lifted}
use Rattle.vcd_core.proofs.wave.splicing.move_to_end.Given as goal

abbrev pub invariant-loop-left : goal.invariant-loop-left
invariant-loop-left l = record {
  from : l.from ≤ l.left;
  within : l.left ≤ length l.fn.changes - l.gap;
  is : l.changes ≡ lifted (moved_change l.by) l.fn.changes (length l.fn.changes - l.gap) l.gap l.left;
}

abbrev pub decreases-loop-left : goal.decreases-loop-left
decreases-loop-left l = l.left
