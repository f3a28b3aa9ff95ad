use Rattle.std.proofs.lemmas.Result.{IfOk-weaker}
use Rattle.vcd_core.specs.CaptureContents.{contents}
use Rattle.vcd_edit.specs.Touched.{piece_advance}
use Rattle.vcd_edit.specs.inside.exchange.Opposites.{IsOppositeRecord}
use Rattle.vcd_edit.proofs.shared.TouchedChanges.{own_advances}
use Rattle.vcd_edit.proofs.shared.SignalCounts.{refused_where}
use Rattle.vcd_edit.proofs.reverting.revert.Goals as goal

pub returns-clause-stored : goal.returns-clause-stored
returns-clause-stored c =
    let applied_record = c.args.applied_record in
    IfOk-weaker c.exchange_record.result (IsOppositeRecord (contents c.args.capture.now) applied_record) _
    (λ q leads. leads.stored (piece_advance applied_record.pieces)
    (own_advances applied_record.pieces 0 c.exchange_record.ensures.one_kind.rise))
    c.exchange_record.ensures.restores

pub returns-clause-refused : goal.returns-clause-refused
returns-clause-refused c =
    refused_where c.exchange_record.result c.args.applied_record (contents c.args.capture.now)
    c.exchange_record.ensures.one_kind c.requires.fits c.exchange_record.ensures.never_refused
