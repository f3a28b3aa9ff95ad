use Rattle.std.proofs.Common.{◌≡◌, map, take}
use Rattle.vcd_core.specs.CaptureContents.{signal_contents}
use Rattle.vcd_amend.specs.AmendmentContents.{added_contents, code_contents}
use Rattle.vcd_amend.specs.inside.coding.Codes.{variables_by_codes}
use Rattle.vcd_amend.proofs.coding.fates.added_variables.Given as goal

abbrev pub invariant-loop-position : goal.invariant-loop-position
invariant-loop-position l = map added_contents l.added.items ≡ variables_by_codes
    (map signal_contents (take l.position l.derived)) (map code_contents (take l.position l.codes))
