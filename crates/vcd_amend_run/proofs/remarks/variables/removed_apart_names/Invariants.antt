use Rattle.std.proofs.Common.{◌≡◌, List, map, take}
use Rattle.vcd_text.specs.AsDeclared.{declared_name}
use Rattle.vcd_text.specs.Grammar.{VariableDeclaration}
use Rattle.vcd_amend_run.specs.OutputRemarks.{is_removed_apart}
use Rattle.vcd_amend_run.specs.inside.OutputRemarks.{HaveCodesOf, fate_in_memory, variables_by_fate}
use Rattle.vcd_amend_run.proofs.remarks.variables.removed_apart_names.Given as goal

abbrev pub invariant-loop-variable : goal.invariant-loop-variable
invariant-loop-variable l = (left : List VariableDeclaration) → HaveCodesOf l.uses left
    → l.names.items ≡ map declared_name
    (variables_by_fate (is_removed_apart left) (map fate_in_memory (take l.variable-index l.fated)))
