use Rattle.std.proofs.Common.{◌≡◌, map, take}
use Rattle.vcd_amend.specs.AmendmentContents.{fate_contents, code_contents}
use Rattle.vcd_amend.specs.inside.coding.ChangedWaves.{kept_contents}
use Rattle.vcd_amend.specs.inside.coding.Codes.{fates_by_index}
use Rattle.vcd_amend.proofs.coding.fates.fates.Given as goal

abbrev pub invariant-loop-position : goal.invariant-loop-position
invariant-loop-position l = map fate_contents l.fates.items ≡ fates_by_index (map code_contents l.codes)
    (map kept_contents (take l.position l.kept)) (take l.position l.indices)
