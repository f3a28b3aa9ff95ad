-- No due change passed is open.
use Rattle.std.proofs.Common.{◌≡◌, ◌-◌, map, drop, length}
use Rattle.std.specs.List.{filter}
use Rattle.vcd_amend.specs.inside.amending.CodeProgress.{is_open_by}
use Rattle.vcd_amend.specs.inside.amending.DueChanges.{due_transition, before_tick, from_tick}
use Rattle.vcd_amend.proofs.amending.due_writing.next_if_none_open.Given as goal

abbrev pub invariant-loop-change : goal.invariant-loop-change
invariant-loop-change l = record {
  closed : filter (is_open_by l.progress) (before_tick l.tick (map due_transition (drop l.index l.due)))
      ≡ filter (is_open_by l.progress) (before_tick l.tick (map due_transition (drop l.next l.due)));
  next : from_tick l.tick (map due_transition (drop l.index l.due))
      ≡ from_tick l.tick (map due_transition (drop l.next l.due));
}

abbrev pub decreases-loop-change : goal.decreases-loop-change
decreases-loop-change l = length l.due - l.index
