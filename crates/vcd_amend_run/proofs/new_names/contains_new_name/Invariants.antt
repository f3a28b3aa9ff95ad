use Rattle.std.proofs.Common.{◌≡◌, map, drop}
use Rattle.vcd_core.specs.CaptureContents.{signal_contents}
use Rattle.vcd_amend.specs.DeclaredVariables.{declaration_of_variable}
use Rattle.vcd_amend_run.specs.NewNames as spec
use Rattle.vcd_amend_run.proofs.new_names.contains_new_name.Given as goal

abbrev pub invariant-loop-position : goal.invariant-loop-position
invariant-loop-position l =
    spec.takes_skipped_name (map declaration_of_variable l.skipped.declared.now) (map signal_contents l.firsts)
    (drop l.position l.origins) (map signal_contents (drop l.position l.lasts))
    ≡ spec.takes_skipped_name (map declaration_of_variable l.skipped.declared.now) (map signal_contents l.firsts)
    l.origins (map signal_contents l.lasts)
