use Rattle.std.proofs.Common.{◌≡◌, take, vec_capacity}
use Rattle.vcd_core.proofs.wave.list.copy_with_room.Given as goal

-- the changes so far are copied, in the room that was made at first
abbrev pub invariant-loop-change : goal.invariant-loop-change
invariant-loop-change l = (l.copy.items ≡ take l.change-index l.changes)
    × (vec_capacity l.copy ≡ vec_capacity l.initial.copy)
