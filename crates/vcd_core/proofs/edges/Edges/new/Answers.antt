use Rattle.std.proofs.Common.{◌∷◌, []}
use Rattle.std.specs.Option.{option_copied}
use Rattle.vcd_core.proofs.edges.EdgesInTurn.{walk_from}
use Rattle.vcd_core.proofs.edges.Edges.new.Goals as goal

pub returns : goal.returns
returns c = record {
  edges = λ end upto. walk_from _ (option_copied c.args.a ∷ option_copied
      c.args.b ∷ option_copied c.args.c ∷ option_copied c.args.d ∷ []) end c.new.ensures.traces upto;
}
