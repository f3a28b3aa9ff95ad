use Rattle.vcd_text.specs.inside.reading.Log.{logged, CanMoveLog, MovesLog}
use Rattle.vcd_text.proofs.reading.log.move_log_to_waves.Given as goal

-- the groups that are left can be taken, and the variables have taken the others
abbrev pub invariant-loop-group : goal.invariant-loop-group
invariant-loop-group l =
    CanMoveLog l.kept.items (logged l.group-iterator.rest.items)
    × MovesLog l.fn.kept.items l.kept.items (logged l.fn.groups.items) (logged l.group-iterator.rest.items)
