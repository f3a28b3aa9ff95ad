use Rattle.std.proofs.Common.{◌≡◌, ◌++◌, take}
use Rattle.std.specs.List.{flat_map}
use Rattle.vcd_remarks.specs.Findings.{finding_text}
use Rattle.vcd_remarks.specs.Remarks.{remarks_text}
use Rattle.vcd_remarks.proofs.findings.telling.append_findings.Given as goal

abbrev pub invariant-loop-finding : goal.invariant-loop-finding
invariant-loop-finding l = l.text.items
    ≡ l.initial.text.items ++ remarks_text l.number (flat_map finding_text (take l.finding-index l.findings))
