use Rattle.std.proofs.Common.{◌↔◌, map, drop}
use Rattle.vcd_core.specs.CaptureContents.{signal_contents}
use Rattle.vcd_amend.specs.DeclaredVariables.{declaration_of_variable, HaveSizesOf}
use Rattle.vcd_amend.proofs.declarations.signal_sizes.have_sizes_of.Given as goal

abbrev pub invariant-loop-variable : goal.invariant-loop-variable
invariant-loop-variable l =
    HaveSizesOf (map signal_contents l.signals) (map declaration_of_variable l.variables)
    ↔ HaveSizesOf (map signal_contents l.left) (map declaration_of_variable (drop l.variable-index l.variables))
