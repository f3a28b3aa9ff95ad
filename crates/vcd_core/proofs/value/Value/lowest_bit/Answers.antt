use Rattle.std.proofs.Common.{◌<◌, sym, length, ◌∙◌, arith}
use Rattle.vcd_core.specs.BlockRows.{letter_of}
use Rattle.vcd_core.proofs.shared.LettersOfPlanes.{letter_at-shown}
use Rattle.vcd_core.proofs.value.Value.lowest_bit.Goals as goal

pub returns : goal.returns
returns c =
    let within : 0 < length c.args.self.now = omega (arith, c.width_fits.ensures.least) in
    c.letter.ensures
    ∙ sym (letter_at-shown _ _ c.self.invariant c.self.view_is _ within
    ∙ (λ p. letter_of (c.plane_bit.ensures p) (c.plane_bit-2.ensures p)))
