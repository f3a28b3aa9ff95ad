-- The skipped variables so far are added.
use Rattle.std.proofs.Common.{◌≡◌, ◌++◌, map, take, length}
use Rattle.vcd_compare.specs.inside.Planning.{planned_listed}
use Rattle.vcd_compare.proofs.variables.add_skipped.Given as goal

abbrev pub invariant-loop-variable : goal.invariant-loop-variable
invariant-loop-variable l = l.variables.items ≡ l.initial.variables.items
    ++ map (planned_listed (length l.initial.variables.items)) (take l.variable-index l.skipped)
