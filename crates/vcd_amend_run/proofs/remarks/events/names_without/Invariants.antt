use Rattle.std.proofs.Common.{◌≡◌, map, take}
use Rattle.vcd_text.specs.AsDeclared.{declared_name}
use Rattle.vcd_amend.specs.DeclaredVariables.{declarations_of}
use Rattle.vcd_amend_run.specs.inside.OutputRemarks.{events_without}
use Rattle.vcd_amend.specs.inside.coding.Codes.{has_code}
use Rattle.vcd_amend_run.proofs.remarks.events.names_without.Given as goal

abbrev pub invariant-loop-variable : goal.invariant-loop-variable
invariant-loop-variable l = l.names.items ≡ map declared_name
    (events_without (has_code l.lasting) (declarations_of (take l.variable-index l.declared)))
