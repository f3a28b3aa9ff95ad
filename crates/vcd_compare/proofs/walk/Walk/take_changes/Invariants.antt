-- The walk goes on, and no file is read.
use Rattle.std.proofs.Common.{◌≡◌, ◌+◌, ℕ, List, Option, length}
use Rattle.vcd_text.specs.Grammar.{ParseState}
use Rattle.vcd_compare.specs.inside.Side.{at_hand}
use Rattle.vcd_compare.specs.inside.WalkSteps.{IsWalkAt, IsLast}
use Rattle.vcd_compare.specs.declared.walk.Walk.{Walk}
use Rattle.vcd_compare.proofs.walk.Walk.take_changes.Given as goal

abbrev pub invariant-loop-which : goal.invariant-loop-which
invariant-loop-which l = record {
  at : (coming other left other_left : Option (List ℕ)) (s t : ParseState) (start : Walk)
      → IsWalkAt l.fn.most coming other left other_left s t start l.fn.self
      → IsWalkAt l.fn.most coming other left other_left s t start l.self;
  first : l.self.first ≡ record l.fn.self.first { taken = l.self.first.taken };
  second : l.self.second ≡ record l.fn.self.second { taken = l.self.second.taken };
  last : IsLast l.fn.most l.last l.self;
}

abbrev pub decreases-loop-which : goal.decreases-loop-which
decreases-loop-which l = length (at_hand l.self.first) + length (at_hand l.self.second)
