use Rattle.std.proofs.Common.{refl, ◌∙◌, sym, map, drop}
use Rattle.vcd_text.proofs.shared.EmittedParts.{prefix_begun, prefix_grows, prefix_whole}
use Rattle.vcd_amend.specs.AmendmentContents.{code_contents}
use Rattle.vcd_amend.specs.inside.amending.CodeProgress.{is_open_by}
use Rattle.vcd_amend.specs.inside.amending.DueChanges.{due_transition}
use Rattle.vcd_amend.proofs.amending.StampedItems.{stamped_step, from_step, stamped_none, from_none}
use Rattle.vcd_amend.proofs.amending.due_writing.write_due_before.Goals as goal

pub loop-change-init : goal.loop-change-init
loop-change-init g c = record { text = prefix_begun refl; next = refl; counts = c.requires.counts }

pub loop-change-preserved : goal.loop-change-preserved
loop-change-preserved g c =
    let kept = c.loop-change.invariant in
    let d = c.in-Some.change in
    let (within, early, is) = c.in-Some.ensures.some in
    record {
      text = prefix_grows _ kept.text c.write_stamped-stamped.ensures.written
          (stamped_step (is_open_by c.args.due.now.progress.now)
          (map code_contents c.args.due.now.codes.now) c.loop-change.stamped c.write_stamped-stamped.result c.args.tick
          c.args.due.now.changes.now
          c.loop-change.index d within is early c.write_stamped-stamped.ensures.last);
      next = from_step c.args.tick c.args.due.now.changes.now c.loop-change.index d within is early ∙ kept.next;
      counts = c.write_stamped-stamped.auto.counts ∙ kept.counts;
    }

pub returns-clause-written : goal.returns-clause-written
returns-clause-written g c = prefix_whole c.loop-change.invariant.text (stamped_none (is_open_by
    c.args.due.now.progress.now)
    (map code_contents c.args.due.now.codes.now) c.loop-change.stamped c.args.tick
    (map due_transition (drop c.loop-change.index c.args.due.now.changes.now)) c.in_default.ensures.none)

pub returns-clause-next : goal.returns-clause-next
returns-clause-next g c = sym (from_none c.args.tick (map due_transition (drop c.loop-change.index
    c.args.due.now.changes.now))
    c.in_default.ensures.none) ∙ c.loop-change.invariant.next
