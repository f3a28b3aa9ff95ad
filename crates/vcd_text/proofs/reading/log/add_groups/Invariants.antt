use Rattle.std.proofs.Common.{◌≡◌, ℕ, ◌-◌, length}
use Rattle.vcd_text.specs.inside.reading.Log.{logged, AreGrouped}
use Rattle.vcd_text.proofs.reading.log.add_groups.Given as goal

abbrev pub invariant-loop-alloc : goal.invariant-loop-alloc
invariant-loop-alloc l = AreGrouped 0 l.groups.items
    × ((position : ℕ) → logged l.groups.items position ≡ logged l.initial.groups.items position)

abbrev pub decreases-loop-alloc : goal.decreases-loop-alloc
decreases-loop-alloc l = l.count - length l.groups.items
