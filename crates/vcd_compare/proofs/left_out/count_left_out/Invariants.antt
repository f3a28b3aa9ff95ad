-- The changes so far were counted.
use Rattle.std.proofs.Common.{◌≤◌, List, ◌++◌, take}
use Rattle.vcd_text.specs.HeardChanges.{HeardChange}
use Rattle.vcd_compare.specs.inside.LeftOut.{AreInOrder, HasCounted}
use Rattle.vcd_compare.proofs.left_out.Counted.{with_more}
use Rattle.vcd_compare.proofs.left_out.count_left_out.Given as goal

abbrev pub invariant-loop-position : goal.invariant-loop-position
invariant-loop-position l = record {
  counted : (before : List HeardChange) → AreInOrder (before ++ l.more)
      → HasCounted before l.fn.left_out l.fn.last_ticks → HasCounted (before ++ take l.position l.more)
      (with_more l.fn.left_out l.replaced) l.last_ticks;
  few : l.replaced ≤ l.position;
}
