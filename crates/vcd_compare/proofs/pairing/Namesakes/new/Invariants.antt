-- The names that are not left are listed.
use Rattle.std.proofs.Common.{◌≡◌, ◌++◌, ℕ, List, length}
use Rattle.std.specs.Global.{Vec}
use Rattle.vcd_compare.specs.inside.Pairing.{texts, HasNamesakesFrom}
use Rattle.vcd_compare.proofs.pairing.Namesakes.new.Given as goal

abbrev pub invariant-loop-name : goal.invariant-loop-name
invariant-loop-name l = record {
  later : List (Vec ℕ);
  whole : l.fn.names.items ≡ l.left.items ++ later;
  listed : HasNamesakesFrom (length l.left.items) (texts later) l.first l.next.items;
}

abbrev pub decreases-loop-name : goal.decreases-loop-name
decreases-loop-name l = length l.left.items
