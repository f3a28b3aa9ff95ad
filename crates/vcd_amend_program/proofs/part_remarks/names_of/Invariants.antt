use Rattle.std.proofs.Common.{◌≡◌, map, take}
use Rattle.vcd_amend_program.proofs.part_remarks.names_of.Given as goal

abbrev pub invariant-loop-variable : goal.invariant-loop-variable
invariant-loop-variable l = l.names.items ≡ map (λ v. v.name) (take l.variable-index l.variables)
