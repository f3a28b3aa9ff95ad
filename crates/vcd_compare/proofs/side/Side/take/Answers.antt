use Rattle.std.proofs.Common.{arith, ap, length}
use Rattle.vcd_text.specs.HeardChanges.{HeardChange}
use Rattle.vcd_text.specs.inside.reading.ChangeStream.{heard_by}
use Rattle.vcd_compare.proofs.side.Chunks.{next_at_hand}
use Rattle.vcd_compare.proofs.side.Side.take.Goals as goal

pub returns-clause-at_hand : goal.returns-clause-at_hand
returns-clause-at_hand c h rest at =
    next_at_hand (heard_by c.args.self.now.stream) c.args.self.now.taken _ h rest (λ within. omega (
      arith,
      within,
      c.min-self.ensures,
      c.saturating_add.ensures,
      c.len-count.ensures,
      c.len-count.type_inv,
      ap (length {A = HeardChange}) c.heard.ensures,
    )) at
