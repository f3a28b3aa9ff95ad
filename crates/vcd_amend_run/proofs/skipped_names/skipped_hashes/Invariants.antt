use Rattle.std.proofs.Common.{◌≡◌, ◌||◌, map, ℕ, drop, nat_eq}
use Rattle.std.specs.List.{list_any}
use Rattle.std.specs.HashSet.{contains}
use Rattle.vcd_amend.specs.DeclaredVariables.{declaration_of_variable}
use Rattle.vcd_amend_run.specs.NewNames.{skipped_names}
use Rattle.vcd_amend_run.specs.inside.NameHash.{name_hash}
use Rattle.vcd_amend_run.proofs.skipped_names.skipped_hashes.Given as goal

abbrev pub invariant-loop-variable : goal.invariant-loop-variable
invariant-loop-variable l =
    (x : ℕ) → (contains nat_eq l.hashes x || list_any (nat_eq x)
    (map name_hash (skipped_names (map declaration_of_variable (drop l.variable-index l.declared)))))
    ≡ list_any (nat_eq x) (map name_hash (skipped_names (map declaration_of_variable l.declared)))
