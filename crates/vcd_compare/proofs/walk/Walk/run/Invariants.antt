-- The walk goes on.
use Rattle.std.proofs.Common.{◌≡◌, ◌+◌, ℕ, false, List, Option}
use Rattle.vcd_text.specs.Grammar.{ParseState}
use Rattle.vcd_compare.specs.inside.Side.{reads_to_come}
use Rattle.vcd_compare.specs.inside.WalkSteps.{IsWalkStart, IsWalkAt}
use Rattle.vcd_compare.proofs.walk.Walk.run.Given as goal

abbrev pub invariant-loop-self : goal.invariant-loop-self
invariant-loop-self g l = record {
  first_ready : g.A.Source.has_failed l.first ≡ false;
  second_ready : g.B.Source.has_failed l.second ≡ false;
  at : (coming other : Option (List ℕ)) (s t : ParseState)
      → IsWalkStart coming other (g.A.Source.coming l.fn.first) (g.B.Source.coming l.fn.second) s t l.fn.self
      → IsWalkAt l.fn.most coming other (g.A.Source.coming l.first) (g.B.Source.coming l.second) s t l.fn.self l.self;
}

abbrev pub decreases-loop-self : goal.decreases-loop-self
decreases-loop-self g l = reads_to_come l.self.first + reads_to_come l.self.second
