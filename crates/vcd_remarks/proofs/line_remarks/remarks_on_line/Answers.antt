use Rattle.std.proofs.Common.{ℕ, ◌≡◌, List, sym, subst}
use Rattle.std.specs.Prelude.{IfOk}
use Rattle.vcd_core.specs.CaptureContents.{contents}
use Rattle.vcd_remarks.proofs.line_remarks.RemarksOfLine.{line_remarks_are}
use Rattle.vcd_remarks.proofs.line_remarks.remarks_on_line.Goals as goal

pub returns-in-Ok : goal.returns-in-Ok
returns-in-Ok c =
    subst (λ (t : List ℕ). IfOk c.remarks_on.result (λ text. text.items ≡ t))
    (sym (line_remarks_are c.args.number (contents c.args.capture.now) c.args.line.now c.in-Ok.command
    c.in-Ok.ensures.command))
    c.remarks_on.ensures
