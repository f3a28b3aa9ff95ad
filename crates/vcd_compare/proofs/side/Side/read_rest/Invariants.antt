-- The file was read on.
use Rattle.std.proofs.Common.{◌≡◌, ◌++◌, ℕ, true, false, List, [], Option}
use Rattle.vcd_text.specs.Grammar.{ParseState}
use Rattle.vcd_text.specs.HeardChanges.{HeardChange}
use Rattle.vcd_compare.specs.inside.Side.{IsSideAt, ReadsOn, at_hand, reads_to_come}
use Rattle.vcd_compare.proofs.side.Side.read_rest.Given as goal

abbrev pub invariant-loop-self : goal.invariant-loop-self
invariant-loop-self g l = record {
  reads : (coming : Option (List ℕ)) (state : ParseState) (given : List HeardChange)
      → IsSideAt coming (g.R.Source.coming l.fn.source) state given l.fn.self
      → (taken : List HeardChange) × (on : ReadsOn coming (g.R.Source.coming l.source) state
      (given ++ at_hand l.fn.self) taken l.self)
      × (l.fn.self.is_ended ≡ true → (l.self.is_ended ≡ true) × (on.later ≡ state) × (on.more ≡ []));
  not_failed : g.R.Source.has_failed l.source ≡ false;
  factor : l.self.factor ≡ l.fn.self.factor;
}

abbrev pub decreases-loop-self : goal.decreases-loop-self
decreases-loop-self g l = reads_to_come l.self
