-- The pairs so far are planned.
use Rattle.std.proofs.Common.{◌≡◌, List, map}
use Rattle.vcd_text.specs.Grammar.{VariableDeclaration}
use Rattle.vcd_compare.specs.inside.Outcomes.{compared_positions}
use Rattle.vcd_compare.specs.inside.Planning.{ArePairsOf, AllComparable, pair_positions, planned_variables}
use Rattle.vcd_compare.proofs.planning.planned_pairs.Given as goal

abbrev pub invariant-loop-position : goal.invariant-loop-position
invariant-loop-position l = record {
  bounds : l.pairs.bounds ≡ l.fn.bounds;
  positions : map pair_positions l.pairs.all.items ≡ compared_positions l.position l.outcomes;
  pairs : (ds es : List VariableDeclaration) → l.variables ≡ planned_variables ds → l.others ≡ planned_variables es
      → AllComparable ds es l.outcomes → ArePairsOf l.fn.bounds ds es l.pairs;
}
