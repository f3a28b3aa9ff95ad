use Rattle.std.proofs.Common.{map, take}
use Rattle.vcd_amend_run.specs.inside.OutputRemarks.{HaveCodesLeft, codes_in_place, fate_in_memory}
use Rattle.vcd_amend_run.proofs.remarks.codes_left.codes_left.Given as goal

abbrev pub invariant-loop-variable : goal.invariant-loop-variable
invariant-loop-variable l = HaveCodesLeft l.codes (codes_in_place (map fate_in_memory (take l.variable-index l.fated)))
