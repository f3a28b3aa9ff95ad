-- The names so far are added.
use Rattle.std.proofs.Common.{◌≡◌, ◌++◌, take}
use Rattle.vcd_compare.specs.inside.Pairing.{texts}
use Rattle.vcd_compare.specs.inside.Planning.{listed_names}
use Rattle.vcd_compare.proofs.names.add_names.Given as goal

abbrev pub invariant-loop-variable : goal.invariant-loop-variable
invariant-loop-variable l =
    texts l.names.items ≡ texts l.initial.names.items ++ listed_names (take l.variable-index l.skipped)
