use Rattle.std.proofs.Common.{◌∙◌, ◌%◌, arith, refl}
use Rattle.std.proofs.lemmas.Nat.Bits.{bit_at_set_same, bit_at_set_other, bit_at_clear_same, bit_at_clear_other}
use Rattle.std.specs.Int.{w64}
use Rattle.vcd_core.proofs.planes.WrittenBits.{plane_bit-set_same, plane_bit-write}
use Rattle.vcd_core.proofs.planes.write_plane_bit.Goals as goal

pub returns-then-set-clause-at : goal.returns-then-set-clause-at
returns-then-set-clause-at c =
    rw c.if-set.true (plane_bit-set_same _ _ _ _ c.args.k c.requires.within refl
    ∙ bit_at_set_same w64 _ (c.args.k % 64) (omega arith))

pub returns-then-set-clause-others : goal.returns-then-set-clause-others
returns-then-set-clause-others c =
    plane_bit-write _ c.args.plane c.args.k _ c.requires.plane c.requires.within
    (λ i low apart. bit_at_set_other w64 _ (c.args.k % 64) (omega arith) i apart)

pub returns-else-set-clause-at : goal.returns-else-set-clause-at
returns-else-set-clause-at c =
    rw c.if-set.false (plane_bit-set_same _ _ _ _ c.args.k c.requires.within refl
    ∙ bit_at_clear_same w64 _ (c.args.k % 64) (omega arith))

pub returns-else-set-clause-others : goal.returns-else-set-clause-others
returns-else-set-clause-others c =
    plane_bit-write _ c.args.plane c.args.k _ c.requires.plane c.requires.within
    (λ i low apart. bit_at_clear_other w64 _ (c.args.k % 64) (omega arith) i low apart)
