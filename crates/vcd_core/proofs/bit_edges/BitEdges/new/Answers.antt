use Rattle.std.proofs.Common.{◌∷◌, [], map, ap}
use Rattle.vcd_core.specs.BitEdges.{bit_edge}
use Rattle.std.specs.Option.{option_copied}
use Rattle.vcd_core.proofs.edges.EdgesInTurn.{walk_from}
use Rattle.vcd_core.proofs.bit_edges.BitEdges.new.Goals as goal

pub returns : goal.returns
returns c = record {
  edges = λ end upto. ap (map bit_edge)
      (walk_from _ (option_copied c.args.a ∷ option_copied c.args.b ∷ option_copied c.args.c
      ∷ option_copied c.args.d ∷ []) end c.new-walk.ensures.traces upto);
}
