use Rattle.std.proofs.Common.{◌≡◌, ◌-◌}
use Rattle.vcd_core.specs.Splice.{moved_change}
use Rattle.vcd_core.proofs.wave.splicing.MovedChanges.{pulled}
use Rattle.vcd_core.proofs.wave.splicing.move_to_front.Given as goal

abbrev pub invariant-loop-i : goal.invariant-loop-i
invariant-loop-i l = l.changes ≡ pulled (moved_change l.by) l.fn.changes l.from l.to (l.i - l.to)
