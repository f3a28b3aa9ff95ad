-- The changes that are not left are taken.
use Rattle.std.proofs.Common.{◌≡◌, ◌++◌, List, length, reverse}
use Rattle.vcd_amend.specs.declared.amending.held_changes.HeldChange.{HeldChange}
use Rattle.vcd_amend.specs.inside.amending.HeldChanges.{last_held, AreCodesOf}
use Rattle.vcd_amend.proofs.amending.held_changes.last_held.Given as goal

abbrev pub invariant-loop-change : goal.invariant-loop-change
invariant-loop-change l = record {
  later : List HeldChange;
  whole : l.fn.changes.items ≡ l.left.items ++ later;
  held : reverse l.held.items ≡ last_held later;
  seen : AreCodesOf l.seen later;
}

abbrev pub decreases-loop-change : goal.decreases-loop-change
decreases-loop-change l = length l.left.items
