use Rattle.std.proofs.Common.{◌≡◌, map, take, pos}
use Rattle.vcd_core.specs.Splice.{moved_change}
use Rattle.vcd_edit.proofs.plans.shift.later_changes.Given as goal

-- the changes so far
abbrev pub invariant-loop-change : goal.invariant-loop-change
invariant-loop-change l = l.copies.items ≡ map (moved_change (pos l.ticks)) (take l.change-index l.changes)
