-- The due changes passed are written.
use Rattle.std.proofs.Common.{◌≡◌, ◌-◌, map, drop, length}
use Rattle.std.specs.List.{filter, flat_map}
use Rattle.vcd_text.specs.Text.{item_line}
use Rattle.vcd_text.proofs.shared.EmittedParts.{WritesPrefix}
use Rattle.vcd_amend.specs.AmendmentContents.{code_contents}
use Rattle.vcd_amend.specs.inside.amending.CodeProgress.{is_open_by}
use Rattle.vcd_amend.specs.inside.amending.DueChanges.{due_transition, stamped_items, before_tick, from_tick}
use Rattle.vcd_amend.proofs.amending.due_writing.write_due_before.Given as goal

abbrev pub invariant-loop-change : goal.invariant-loop-change
invariant-loop-change g l = record {
  text : WritesPrefix g.W.Sink l.initial.output l.output
      (flat_map item_line (stamped_items (map code_contents l.due.codes.now) l.stamped (filter (is_open_by
      l.due.progress.now)
      (before_tick l.tick (map due_transition (drop l.index l.due.changes.now))))))
      (flat_map item_line (stamped_items (map code_contents l.due.codes.now) l.fn.last (filter (is_open_by
      l.due.progress.now)
      (before_tick l.tick (map due_transition (drop l.due.next l.due.changes.now))))));
  next : from_tick l.tick (map due_transition (drop l.index l.due.changes.now))
      ≡ from_tick l.tick (map due_transition (drop l.due.next l.due.changes.now));
  counts : length l.counts ≡ length l.due.codes.now;
}

abbrev pub decreases-loop-change : goal.decreases-loop-change
decreases-loop-change g l = length l.due.changes.now - l.index
