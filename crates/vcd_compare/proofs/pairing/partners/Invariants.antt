-- The signals so far have their partners.
use Rattle.std.proofs.Common.{◌≡◌, ◌++◌, ℕ, List, length, map}
use Rattle.std.specs.List.{range_with_len}
use Rattle.vcd_compare.specs.Pairs.{partner_of}
use Rattle.vcd_compare.specs.inside.Pairing.{texts, index_in, IsLast}
use Rattle.vcd_compare.proofs.pairing.partners.Given as goal

abbrev pub invariant-loop-name : goal.invariant-loop-name
invariant-loop-name l = record {
  all : l.fn.names.items ≡ l.yielded ++ l.name-iterator.rest.items;
  paired : l.partners.items ≡ map (partner_of (texts l.fn.names.items) (texts l.fn.others.items))
      (range_with_len 0 (length l.yielded));
  last_is : (name : List ℕ) → IsLast (texts l.fn.names.items) (length l.yielded) name (index_in l.last name);
}
