use Rattle.std.proofs.Common.{ℕ, ◌++◌, List, drop}
use Rattle.vcd_text.specs.inside.reading.Log.{changes_of_position, CanMoveLog, MovesLog}
use Rattle.vcd_text.specs.declared.reading.log.LoggedChange.{LoggedChange}
use Rattle.vcd_text.proofs.reading.log.move_group.Given as goal

-- the rest of the group can be taken, and the variables have taken the others
abbrev pub invariant-loop-change : goal.invariant-loop-change
invariant-loop-change l =
    ((rest : ℕ → List LoggedChange)
    × CanMoveLog l.kept.items (λ position. changes_of_position position (drop l.change-index l.group) ++ rest position))
    × ((rest : ℕ → List LoggedChange) → MovesLog l.fn.kept.items l.kept.items
    (λ position. changes_of_position position l.group ++ rest position)
    (λ position. changes_of_position position (drop l.change-index l.group) ++ rest position))
