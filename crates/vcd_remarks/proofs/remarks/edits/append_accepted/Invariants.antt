-- What is found at the changes so far and left to find at the others is all.
use Rattle.std.proofs.Common.{◌≡◌, drop}
use Rattle.vcd_core.specs.CaptureContents.{contents}
use Rattle.vcd_remarks.specs.EditFindings.{edit_findings}
use Rattle.vcd_remarks.specs.inside.EditFinder.{edit_findings_left}
use Rattle.vcd_remarks.proofs.remarks.edits.append_accepted.Given as goal

abbrev pub invariant-loop-change : goal.invariant-loop-change
invariant-loop-change l =
    edit_findings_left l.finder (drop l.change-index l.change-items) ≡ edit_findings l.edit (contents l.fn.capture)
