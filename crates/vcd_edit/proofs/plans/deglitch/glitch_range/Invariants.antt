use Rattle.std.proofs.Common.{◌≡◌, ◌≤◌, ◌-◌, ◌++◌, List, length, take, drop}
use Rattle.vcd_core.specs.declared.wave.Change.{Change}
use Rattle.vcd_edit.specs.inside.plans.RemainingChanges.{remaining_changes}
use Rattle.vcd_edit.proofs.plans.deglitch.glitch_range.Given as goal

-- the changes that remain of the range, and all between it and the current change
abbrev pub invariant-loop-i : goal.invariant-loop-i
invariant-loop-i l = record {
  to : l.glitches.to ≤ l.i;
  less : l.glitches.remaining ≤ l.glitches.to;
  remaining : (prefix : List Change) × (length prefix ≡ l.glitches.remaining)
      × (remaining_changes l.ticks l.fn.before l.changes
      ≡ prefix ++ take (l.i - l.glitches.to) (drop l.glitches.to l.changes) ++ remaining_changes l.ticks l.last
      (drop l.i l.changes));
}
