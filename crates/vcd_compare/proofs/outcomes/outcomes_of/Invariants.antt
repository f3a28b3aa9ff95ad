-- The outcomes so far.
use Rattle.std.proofs.Common.{◌≡◌, map}
use Rattle.std.specs.List.{range_with_len}
use Rattle.vcd_compare.specs.inside.Outcomes.{outcome_in}
use Rattle.vcd_compare.proofs.outcomes.outcomes_of.Given as goal

abbrev pub invariant-loop-position : goal.invariant-loop-position
invariant-loop-position l = l.outcomes.items
    ≡ map (outcome_in l.matching l.variables l.others) (range_with_len 0 l.position)
