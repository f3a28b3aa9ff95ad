-- The pairs so far are told.
use Rattle.std.proofs.Common.{◌≡◌, ◌<◌, ◌-◌, ◌^◌, ◌++◌}
use Rattle.vcd_compare.specs.inside.Pairs.{AreTold}
use Rattle.vcd_compare.proofs.pairs.Pairs.finish.Given as goal

abbrev pub invariant-loop-pair : goal.invariant-loop-pair
invariant-loop-pair l = record {
  all : l.fn.self.all.items ≡ l.yielded ++ l.pair-iterator.rest.items;
  told : l.fn.last < 2 ^ 64 - 1 → AreTold l.fn.self.bounds l.fn.last l.yielded l.told.items;
}
