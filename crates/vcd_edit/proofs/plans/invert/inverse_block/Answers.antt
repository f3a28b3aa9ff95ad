use Rattle.std.proofs.Common.{◌∙◌, ap, max}
use Rattle.std.specs.Int.{bit_at}
use Rattle.std.proofs.lemmas.Nat.Bits.{bit_at_or, bit_at-lt}
use Rattle.vcd_core.specs.BlockRows.{letter_of}
use Rattle.vcd_edit.proofs.plans.invert.InversePiece.{not_letter}
use Rattle.vcd_edit.proofs.plans.invert.inverse_block.Goals as goal

pub returns : goal.returns
returns c = λ i inside.
    let low = c.args.block.low in
    let high = c.args.block.high in
    ap (λ n. letter_of n (bit_at high i)) (bit_at_or high c.inverse_bits.result i
    ∙ ap (max (bit_at high i)) (c.inverse_bits.ensures i inside))
    ∙ not_letter (bit_at low i) (bit_at high i) (bit_at-lt _ _) (bit_at-lt _ _)
