use Rattle.std.proofs.Common.{◌≡◌, ◌++◌, take, drop}
use Rattle.vcd_core.specs.WavePush.{last_value}
use Rattle.vcd_edit.specs.inside.plans.RemainingChanges.{remaining_changes}
use Rattle.vcd_edit.proofs.plans.deglitch.remaining_prefix_len.Given as goal

-- all so far remain
abbrev pub invariant-loop-i : goal.invariant-loop-i
invariant-loop-i l = record {
  remaining : remaining_changes l.ticks l.fn.before l.changes ≡ take l.i l.changes
      ++ remaining_changes l.ticks l.last (drop l.i l.changes);
  last : l.last ≡ last_value l.fn.before (take l.i l.changes);
}
