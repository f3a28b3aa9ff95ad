-- Each position has the tick that it had.
use Rattle.std.proofs.Common.{◌≡◌, ℕ, ◌+◌, ◌-◌, length, slice_index_or}
use Rattle.vcd_compare.specs.declared.last_ticks.TheConstants.{NO_TICK}
use Rattle.vcd_compare.proofs.last_ticks.reach_position.Given as goal

abbrev pub invariant-loop-ticks : goal.invariant-loop-ticks
invariant-loop-ticks l =
    (other : ℕ) → slice_index_or l.ticks.items other NO_TICK ≡ slice_index_or l.fn.ticks.items other NO_TICK

abbrev pub decreases-loop-ticks : goal.decreases-loop-ticks
decreases-loop-ticks l = (l.position + 1) - length l.ticks.items
