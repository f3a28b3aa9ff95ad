use Rattle.std.proofs.Common.{◌≡◌, ◌++◌, ◌<◌, ℕ, All, map, take}
use Rattle.vcd_text.specs.inside.writing.Transitions.{transition_of}
use Rattle.vcd_amend.specs.inside.amending.DueChanges.{due_transition}
use Rattle.vcd_amend.proofs.amending.due_changes.add_new_changes.Given as goal

abbrev pub invariant-loop-tick : goal.invariant-loop-tick
invariant-loop-tick l = record {
  added : map due_transition l.due.items ≡ map due_transition l.initial.due.items
      ++ map (λ tick. transition_of tick l.index) (take l.tick-index l.ticks);
  within : (count : ℕ) → l.index < count → All (λ d. d.index < count) l.initial.due.items
      → All (λ d. d.index < count) l.due.items;
}
