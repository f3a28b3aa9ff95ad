-- The changes that are left decide, and lead to the same tick and value.
use Rattle.std.proofs.Common.{◌≡◌, ◌↔◌, drop, map}
use Rattle.vcd_core.specs.Splice.{moved_change}
use Rattle.vcd_core.specs.WavePush.{last_value}
use Rattle.vcd_edit.specs.inside.fitting.Adjacency.{floor_after, MayFollow}
use Rattle.vcd_edit.proofs.fitting.adjacency.floor_and_value_after.Given as goal

abbrev pub invariant-loop-change : goal.invariant-loop-change
invariant-loop-change l =
    (MayFollow l.by l.end l.from l.last (drop l.change-index l.changes)
    ↔ MayFollow l.by l.end l.floor l.fn.before l.changes)
    × (floor_after l.from (map (moved_change l.by) (drop l.change-index l.changes))
    ≡ floor_after l.floor (map (moved_change l.by) l.changes))
    × (last_value l.last (map (moved_change l.by) (drop l.change-index l.changes))
    ≡ last_value l.fn.before (map (moved_change l.by) l.changes))
