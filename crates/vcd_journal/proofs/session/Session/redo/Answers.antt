use Rattle.std.proofs.Common.{◌<◌, ap, length, arith}
use Rattle.std.proofs.lemmas.Bool.Decides.{nat_tests}
use Rattle.std.proofs.lemmas.Result.{err_from_is_err_and}
use Rattle.circular_buffer.specs.Buffer.{Buffer}
use Rattle.vcd_core.specs.CaptureContents.{contents}
use Rattle.vcd_edit.specs.RecordView.{RecordView}
use Rattle.vcd_journal.proofs.session.RecordsOfHistory.{same_machine, redo_refused}
use Rattle.vcd_journal.proofs.session.Session.redo.Goals as goal

pub returns-in_err-apply_newest-clause-step : goal.returns-in_err-apply_newest-clause-step
returns-in_err-apply_newest-clause-step c =
    let refused = err_from_is_err_and c.from_residual.result c.from_residual.ensures.1 in
    let old = c.self.inside in
    let kept = c.in_err-apply_newest.ensures.unchanged in
    let some : 0 < length old.future.items = grind (arith, nat_tests) in
    rw (refused.1, refused.2, ← c.self.view_is)
    (redo_refused (contents old.capture) old.past.items old.future.items old.depth _ some
    c.in_err-apply_newest.ensures.needs
    (same_machine (contents old.capture) _ old.past.items _ old.future.items _ old.depth kept.0
    (ap (λ (ring : Buffer RecordView). ring.items) kept.2) (ap (λ (ring : Buffer RecordView). ring.items) kept.1)))
