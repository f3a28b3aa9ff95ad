use Rattle.std.proofs.Common.{◌+◌, ◌∙◌, map, drop}
use Rattle.vcd_text.proofs.shared.EmittedParts.{prefix_grows, prefix_whole}
use Rattle.vcd_amend.specs.AmendmentContents.{code_contents}
use Rattle.vcd_amend.specs.inside.amending.CodeProgress.{is_open_by}
use Rattle.vcd_amend.specs.inside.amending.DueChanges.{due_transition}
use Rattle.vcd_amend.proofs.amending.StampedItems.{ending_step, ending_none}
use Rattle.vcd_amend.proofs.amending.due_writing.write_due_at.Goals as goal

pub loop-change-preserved : goal.loop-change-preserved
loop-change-preserved g c =
    let kept = c.loop-change.invariant in
    let d = c.in-Some.change in
    let (within, early, is) = c.in-Some.ensures.some in
    record {
      text = prefix_grows _ kept.text c.write_after_feed.ensures (ending_step (is_open_by c.args.due.now.progress.now)
          (map code_contents c.args.due.now.codes.now) (c.args.tick + 1) c.args.due.now.changes.now c.loop-change.index
          d within is early);
      counts = c.write_after_feed.auto.counts ∙ kept.counts;
    }

pub returns : goal.returns
returns g c = prefix_whole c.loop-change.invariant.text (ending_none (is_open_by c.args.due.now.progress.now)
    (map code_contents c.args.due.now.codes.now) (c.args.tick + 1)
    (map due_transition (drop c.loop-change.index c.args.due.now.changes.now)) c.in_default.ensures.none)
