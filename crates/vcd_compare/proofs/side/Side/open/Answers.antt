use Rattle.std.proofs.Common.{[], length, ap, ◌∙◌}
use Rattle.vcd_core.specs.declared.capture.TheConstants.{SIGNAL_LIMIT}
use Rattle.vcd_text.specs.Grammar.{initial_state}
use Rattle.vcd_text.specs.HeardChanges.{HeardChange}
use Rattle.vcd_text.proofs.shared.FailedResults.{err_is}
use Rattle.vcd_compare.proofs.left_out.Counted.{counted_none}
use Rattle.vcd_compare.proofs.side.ReadOn.{nothing_read, is_declared}
use Rattle.vcd_compare.proofs.side.Side.open.Goals as goal

pub reach_change-requires-clause-at : goal.reach_change-requires-clause-at
reach_change-requires-clause-at g c =
    let coming = g.R.Source.coming c.args.source.now in (
      coming,
      initial_state SIGNAL_LIMIT,
      [],
      nothing_read coming c.new-stream.result c.len-taken.result 1 c.nothing.result
          c.new.result (c.len-taken.ensures ∙ ap (length {A = HeardChange}) c.heard.ensures)
          (c.new-stream.ensures coming) (counted_none c.nothing.result c.new.result c.nothing.ensures c.new.ensures),
    )

pub returns-in_err-reach_change-clause-refused : goal.returns-in_err-reach_change-clause-refused
returns-in_err-reach_change-clause-refused g c =
    let coming = g.R.Source.coming c.args.source.now in
    rw (err_is _ c.from_residual.ensures.1)
    (c.in_err-reach_change.ensures.refused coming (initial_state SIGNAL_LIMIT) []
    (nothing_read coming c.new-stream.result c.len-taken.result 1 c.nothing.result c.new.result
    (c.len-taken.ensures ∙ ap (length {A = HeardChange}) c.heard.ensures) (c.new-stream.ensures coming)
    (counted_none c.nothing.result c.new.result c.nothing.ensures c.new.ensures)))

pub returns-clause-opened : goal.returns-clause-opened
returns-clause-opened g c =
    let coming = g.R.Source.coming c.args.source.now in
    let on = c.in_ok-reach_change.ensures.reads coming (initial_state SIGNAL_LIMIT) []
    (nothing_read coming c.new-stream.result c.len-taken.result 1 c.nothing.result c.new.result
    (c.len-taken.ensures ∙ ap (length {A = HeardChange}) c.heard.ensures) (c.new-stream.ensures coming)
    (counted_none c.nothing.result c.new.result c.nothing.ensures c.new.ensures)) in
    record {
      state = on.later;
      at = on.at;
      declared = is_declared coming _ on.later c.reach_change.new.self on.at c.in_ok-reach_change.ensures.reached;
    }
