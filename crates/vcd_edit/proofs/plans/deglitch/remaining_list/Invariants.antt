use Rattle.std.proofs.Common.{◌≡◌, ◌≤◌, ◌++◌, length, drop}
use Rattle.vcd_edit.specs.inside.plans.RemainingChanges.{remaining_changes}
use Rattle.vcd_edit.proofs.plans.deglitch.remaining_list.Given as goal

-- the changes listed and those that remain of the rest are all
abbrev pub invariant-loop-i : goal.invariant-loop-i
invariant-loop-i l = record {
  few : length l.remaining.items ≤ l.glitches.remaining;
  all : remaining_changes l.ticks l.fn.before l.changes ≡ l.remaining.items
      ++ remaining_changes l.ticks l.last (drop l.i l.changes);
}
