use Rattle.std.proofs.Common.{◌≡◌, ◌++◌, map, drop}
use Rattle.vcd_edit.specs.Operators.{not_bit}
use Rattle.vcd_edit.specs.inside.plans.RemainingChanges.{without_repeats, mapped_change}
use Rattle.vcd_edit.proofs.plans.invert.inverse_changes.Given as goal

-- the changes listed and the remaining ones are all
abbrev pub invariant-loop-change : goal.invariant-loop-change
invariant-loop-change l =
    l.inverse.items ++ without_repeats l.last (map (mapped_change (map not_bit)) (drop l.change-index l.changes))
    ≡ without_repeats l.fn.before (map (mapped_change (map not_bit)) l.changes)
