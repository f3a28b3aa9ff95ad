-- The pairs from a bound on have changed, and the next one to change is the last of the variable before it.
use Rattle.std.proofs.Common.{ℕ, ◌≤◌, ◌+◌, Option, Some, None, length, map}
use Rattle.vcd_compare.specs.inside.Occurrences.{HasOccurrences, IsLastPlace}
use Rattle.vcd_compare.specs.inside.Pairs.{variable_in}
use Rattle.vcd_compare.proofs.pairs.Changes.{AreChangedFrom}
use Rattle.vcd_compare.proofs.pairs.change_all.Given as goal

-- one more than the place, if there is one
abbrev steps_left : Option ℕ → ℕ
steps_left None = 0
steps_left (Some place) = place + 1

abbrev pub invariant-loop-at : goal.invariant-loop-at
invariant-loop-at l = (limit variable : ℕ)
    → HasOccurrences limit (map (variable_in l.change.which) l.initial.all) l.places
    → IsLastPlace (map (variable_in l.change.which) l.initial.all) (length l.initial.all) variable (Some l.fn.last)
    → (bound : ℕ) × (bound ≤ length l.initial.all)
    × AreChangedFrom l.bounds l.change.which variable l.change.tick l.change.text.now bound l.initial.all l.all
    × IsLastPlace (map (variable_in l.change.which) l.initial.all) bound variable l.at

abbrev pub decreases-loop-at : goal.decreases-loop-at
decreases-loop-at l = steps_left l.at
