-- The contents of a list after a loan of one item.
use Rattle.std.specs.Prelude.{ℕ, List, slice_set}
use Rattle.std.specs.Borrow.{Lends, MutBor, Fml, RattleType}
use Rattle.vcd_core.specs.contracts.seq.Seq.{the_row}

module _ (T : RattleType) (s : MutBor (List T.Denot)) where
  -- the last value written through r is the item at index i; the other items stay
  abbrev pub lends_item : ℕ → MutBor T.Denot → Fml
  lends_item i r = Lends (the_row T) T s r (slice_set s.now i)
