use Rattle.std.proofs.Common.{◌∙◌}
use Rattle.vcd_edit.proofs.plans.invert.InversePiece.{inverse_more, inverse_done, inverse_none}
use Rattle.vcd_edit.proofs.plans.invert.inverse_changes.Goals as goal

pub loop-change-init : goal.loop-change-init
loop-change-init c = inverse_none c.args.before c.args.changes.now c.reserve_exact.new.self.items
    (c.in_ok-reserve_exact.ensures.items ∙ c.new-inverse.ensures.items)

pub loop-change-preserved : goal.loop-change-preserved
loop-change-preserved c =
    inverse_more c.args.before c.loop-change.last c.inverse_of-value.result c.args.changes.now
    c.loop-change.change-index c.change-item.result c.loop-change.inverse.items c.push_if_new.new.changes.items
    c.loop-change-test.true c.change-item.is c.inverse_of-value.ensures c.loop-change.invariant
    c.in_ok-push_if_new.ensures.added

pub returns : goal.returns
returns c = inverse_done c.args.before c.loop-change.last c.args.changes.now c.loop-change.change-index
    c.loop-change.inverse.items c.loop-change-test.false c.loop-change.invariant
