use Rattle.std.proofs.Common.{◌≡◌, List, map, take}
use Rattle.vcd_text.specs.AsDeclared.{declared_name}
use Rattle.vcd_amend_run.specs.inside.OutputRemarks.{HaveCodesLeft, VariableFate, codes_in_place, fate_in_memory}
use Rattle.vcd_amend_run.specs.inside.OutputRemarks.{is_fated_apart, variables_by_fate}
use Rattle.vcd_amend_run.proofs.remarks.variables.names_apart.Given as goal

abbrev pub invariant-loop-variable : goal.invariant-loop-variable
invariant-loop-variable l = (all : List VariableFate) → HaveCodesLeft l.codes (codes_in_place all)
    → l.names.items ≡ map declared_name
    (variables_by_fate (is_fated_apart all) (map fate_in_memory (take l.variable-index l.fated)))
