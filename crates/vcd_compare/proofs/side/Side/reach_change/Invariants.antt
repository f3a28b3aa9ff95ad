-- The file was read on, and nothing was taken; a chunk was read if it was needed.
use Rattle.std.proofs.Common.{◌≡◌, ◌≤◌, ◌<◌, ◌++◌, ℕ, true, false, List, Option}
use Rattle.vcd_text.specs.Grammar.{ParseState}
use Rattle.vcd_text.specs.HeardChanges.{HeardChange}
use Rattle.vcd_compare.specs.inside.Side.{IsSideAt, ReadsOn, at_hand, needs_chunk, reads_to_come}
use Rattle.vcd_compare.proofs.side.Side.reach_change.Given as goal

abbrev pub invariant-loop-alloc : goal.invariant-loop-alloc
invariant-loop-alloc g l = record {
  reads : (coming : Option (List ℕ)) (state : ParseState) (given : List HeardChange)
      → IsSideAt coming (g.R.Source.coming l.fn.source) state given l.fn.self
      → ReadsOn coming (g.R.Source.coming l.source) state (given ++ at_hand l.fn.self) given l.self;
  not_failed : g.R.Source.has_failed l.source ≡ false;
  factor : l.self.factor ≡ l.fn.self.factor;
  not_more : reads_to_come l.self ≤ reads_to_come l.fn.self;
  fewer : needs_chunk l.fn.self ≡ true → needs_chunk l.self ≡ false → reads_to_come l.self < reads_to_come l.fn.self;
}

abbrev pub decreases-loop-alloc : goal.decreases-loop-alloc
decreases-loop-alloc g l = reads_to_come l.self
