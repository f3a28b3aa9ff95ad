use Rattle.std.proofs.Common.{◌≡◌, ◌||◌, ℕ, List, map, take}
use Rattle.std.specs.Prelude.{bytes_eq}
use Rattle.std.specs.List.{list_any}
use Rattle.vcd_text.specs.inside.reading.CodeTargets.{code_target}
use Rattle.vcd_amend_run.specs.inside.OutputRemarks.{fate_in_memory, variables_in_place}
use Rattle.vcd_amend.proofs.shared.Variables.{any_has}
use Rattle.vcd_amend_run.proofs.remarks.variables.used_codes.Given as goal

abbrev pub invariant-loop-variable : goal.invariant-loop-variable
invariant-loop-variable l = (code : List ℕ) → (code_target l.uses code).is_used
    ≡ (list_any (λ v. bytes_eq code v.code) l.added
    || any_has code (variables_in_place (map fate_in_memory (take l.variable-index l.fated))))
