use Rattle.std.proofs.Common.{◌≡◌, ℕ, ◌<◌, nat_eq, if◌then◌else◌, zero, suc, refl, arith, ◌∙◌, sym, ap}
use Rattle.std.proofs.lemmas.Nat.Bits.{shr_and_one, bit_at-lt}
use Rattle.vcd_core.specs.inside.Planes.{plane_bit}
use Rattle.vcd_core.proofs.planes.plane_bit.Goals as goal

bit_test : (b : ℕ) → b < 2 → b ≡ (if nat_eq b 1 then 1 else 0)
bit_test zero small = refl
bit_test (suc zero) small = refl
bit_test (suc (suc b)) small = absurd (omega arith)

pub returns : goal.returns
unfolding plane_bit
returns c = bit_test _ (bit_at-lt _ _) ∙ ap (λ b. if nat_eq b 1 then 1 else 0) (sym (shr_and_one _ _))
