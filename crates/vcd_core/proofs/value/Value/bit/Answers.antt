use Rattle.std.proofs.Common.{sym, ◌∙◌, arith}
use Rattle.vcd_core.specs.BlockRows.{letter_of}
use Rattle.vcd_core.proofs.shared.LettersOfPlanes.{letter_at-shown, in_planes}
use Rattle.vcd_core.proofs.value.Value.bit.Goals as goal

pub plane_bit-requires : goal.plane_bit-requires
plane_bit-requires c = in_planes _ _ c.self.invariant c.self.view_is 0 _ (omega arith) c.requires

pub plane_bit-requires-2 : goal.plane_bit-requires-2
plane_bit-requires-2 c = in_planes _ _ c.self.invariant c.self.view_is 1 _ (omega arith) c.requires

pub returns : goal.returns
returns c = c.letter.ensures
    ∙ sym (letter_at-shown _ _ c.self.invariant c.self.view_is _ c.requires
    ∙ (λ p. letter_of (c.plane_bit.ensures p) (c.plane_bit-2.ensures p)))
