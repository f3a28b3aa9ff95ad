use Rattle.std.proofs.Common.{take}
use Rattle.vcd_amend.specs.DeclaredVariables.{declarations_of}
use Rattle.vcd_amend_run.specs.inside.OutputRemarks.{lasting_codes}
use Rattle.vcd_amend.specs.inside.coding.Codes.{HasCodes}
use Rattle.vcd_amend_run.proofs.remarks.events.lasting_codes.Given as goal

abbrev pub invariant-loop-variable : goal.invariant-loop-variable
invariant-loop-variable l =
    HasCodes l.lasting (lasting_codes (declarations_of (take l.variable-index l.declared)))
