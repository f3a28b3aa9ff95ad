-- Those found so far.
use Rattle.std.proofs.Common.{◌≡◌, ◌&&◌, not, false, get_or}
use Rattle.std.specs.List.{filter, range_with_len}
use Rattle.vcd_compare.proofs.outcomes.unmarked.Given as goal

abbrev pub invariant-loop-position : goal.invariant-loop-position
invariant-loop-position l = l.found.items
    ≡ filter (λ k. get_or l.tests k false && not (get_or l.marks k false)) (range_with_len 0 l.position)
