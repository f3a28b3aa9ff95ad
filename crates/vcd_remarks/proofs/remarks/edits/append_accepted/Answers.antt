use Rattle.std.proofs.Common.{sym, arith}
use Rattle.vcd_core.specs.CaptureContents.{contents}
use Rattle.vcd_remarks.proofs.remarks.edits.append_accepted.Goals as goal

pub loop-change-init : goal.loop-change-init
loop-change-init c =
    c.new-finder.ensures (contents c.args.capture.now) c.changes_at-change-items.result.now (sym c.end.ensures)
    (omega arith)
    (rw (sym c.in-Some.ensures.signal) (sym c.width_at.ensures.width, sym c.changes_at-change-items.ensures))
