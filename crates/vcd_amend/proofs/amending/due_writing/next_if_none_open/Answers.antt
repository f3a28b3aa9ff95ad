use Rattle.std.proofs.Common.{sym, ap, ◌∙◌, map, drop}
use Rattle.std.specs.List.{filter}
use Rattle.vcd_amend.specs.inside.amending.CodeProgress.{is_open_by}
use Rattle.vcd_amend.specs.inside.amending.DueChanges.{due_transition}
use Rattle.vcd_amend.proofs.amending.StampedItems.{closed_step, from_step, before_none, from_none}
use Rattle.vcd_amend.proofs.amending.due_writing.next_if_none_open.Goals as goal

pub loop-change-preserved : goal.loop-change-preserved
loop-change-preserved c =
    let kept = c.loop-change.invariant in
    let d = c.in-Some.change in
    let (within, early, is) = c.in-Some.ensures.some in
    record {
      closed = closed_step (is_open_by c.args.progress.now) c.args.tick c.args.due.now c.loop-change.index d within is
          early (sym c.is_open.ensures ∙ c.if-is_open.false) ∙ kept.closed;
      next = from_step c.args.tick c.args.due.now c.loop-change.index d within is early ∙ kept.next;
    }

pub returns-clause-none_open : goal.returns-clause-none_open
returns-clause-none_open c = sym c.loop-change.invariant.closed
    ∙ ap (filter (is_open_by c.args.progress.now)) (before_none c.args.tick
    (map due_transition (drop c.loop-change.index c.args.due.now)) c.in_default.ensures.none)

pub returns-clause-next : goal.returns-clause-next
returns-clause-next c = sym (from_none c.args.tick (map due_transition (drop c.loop-change.index c.args.due.now))
    c.in_default.ensures.none) ∙ c.loop-change.invariant.next
