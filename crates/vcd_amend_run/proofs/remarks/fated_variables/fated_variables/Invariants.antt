use Rattle.std.proofs.Common.{◌≡◌, map, take, drop, length}
use Rattle.vcd_text.specs.Grammar.{kept_variables}
use Rattle.vcd_amend.specs.AmendmentContents.{amendment_contents}
use Rattle.vcd_amend.specs.DeclaredVariables.{declarations_of}
use Rattle.vcd_amend_run.specs.inside.OutputRemarks.{fate_in_memory, variable_fates}
use Rattle.vcd_amend_run.proofs.remarks.fated_variables.fated_variables.Given as goal

abbrev pub invariant-loop-variable : goal.invariant-loop-variable
invariant-loop-variable l = record {
  fated : map fate_in_memory l.fated.items
      ≡ variable_fates (amendment_contents l.amendment) (declarations_of (take l.variable-index l.declared));
  fates : l.fates
      ≡ drop (length (kept_variables (declarations_of (take l.variable-index l.declared)))) l.amendment.fates.items;
}
