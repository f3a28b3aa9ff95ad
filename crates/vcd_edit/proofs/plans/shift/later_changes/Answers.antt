use Rattle.std.proofs.Common.{◌+◌, List, ◌∷◌, [], ◌++◌, ap, ◌∙◌}
use Rattle.vcd_core.specs.declared.wave.Change.{Change}
use Rattle.vcd_edit.proofs.plans.shift.ShiftPieces.{later_more}
use Rattle.vcd_edit.proofs.plans.shift.later_changes.Goals as goal

pub loop-change-preserved : goal.loop-change-preserved
loop-change-preserved c =
    c.in_ok-push.ensures.items
    ∙ ap (λ (cs : List Change). cs ++ record {
      tick = c.change-item.result.tick + c.args.ticks;
      value = c.change-item.result.value;
    } ∷ []) c.loop-change.invariant
    ∙ later_more c.args.ticks c.loop-change.change-index c.args.changes.now c.change-item.result c.loop-change-test.true
    c.change-item.is
