use Rattle.std.proofs.Common.{◌≡◌, ◌≤◌, ◌+◌, ◌++◌, length, take, drop, map, vec_len, vec_capacity}
use Rattle.vcd_core.specs.Splice.{moved_change}
use Rattle.vcd_core.proofs.wave.splicing.fill_spliced.Given as goal

-- the later changes so far are appended, in the list's own room
abbrev pub invariant-loop-change : goal.invariant-loop-change
invariant-loop-change l =
    (l.copy.items ≡ take l.fn.range.start l.list ++ l.piece
    ++ map (moved_change l.by) (take l.change-index (drop l.fn.range.end l.list)))
    × (vec_len l.copy ≡ l.fn.range.start + length l.piece + l.change-index)
    × (vec_capacity l.fn.copy ≤ vec_capacity l.copy)
