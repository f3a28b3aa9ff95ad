use Rattle.std.proofs.Common.{◌≡◌, ℕ, ◌+◌, ◌-◌, ◌*◌, ◌/◌, ◌%◌, ◌^◌, ◌<◌, max, Bool, true, false, if◌then◌else◌, bit_or}
use Rattle.std.proofs.Common.{sym, ap, ◌∙◌, arith}
use Rattle.std.specs.Int.{bit_at}
use Rattle.std.proofs.lemmas.Nat.Bits.{bit_at_or, bit_at_lowest, bit_at_above, bit_at_cat_low, bit_at_cat_high}
use mir.Val.{bool_byte}
use Rattle.vcd_core.proofs.letter_block.with_lowest.Goals as goal

first_bit : (a b : ℕ) → b < 2 → bit_at (bit_or (a * 2 % 18446744073709551616) b) 0 ≡ b
first_bit a b small =
    let even : (a * 2 % 18446744073709551616) % 2 ≡ 0 = omega arith in
    let low : bit_at (a * 2 % 18446744073709551616) 0 ≡ 0 = bit_at_lowest _ ∙ even in
    let own : bit_at b 0 ≡ b = bit_at_lowest b ∙ omega arith in
    bit_at_or _ b 0 ∙ (λ p. max (low p) (own p)) ∙ omega arith

later_bit : (a b i : ℕ) → b < 2 → i + 1 < 64 → bit_at (bit_or (a * 2 % 18446744073709551616) b) (i + 1) ≡ bit_at a i
later_bit a b i small inside =
    let whole : a * 2 ^ 1 + 0 ≡ (a * 2 / 18446744073709551616) * 2 ^ 64 + a * 2 % 18446744073709551616 = omega arith in
    let none : bit_at b (i + 1) ≡ 0 = bit_at_above b 1 (i + 1) (omega arith) (omega arith) in
    let index : i + 1 - 1 ≡ i = omega arith in
    let moved : bit_at (a * 2 % 18446744073709551616) (i + 1) ≡ bit_at a i =
    sym (bit_at_cat_low (a * 2 / 18446744073709551616) 64 (a * 2 % 18446744073709551616) (i + 1) inside)
    ∙ ap (λ n. bit_at n (i + 1)) (sym whole) ∙ bit_at_cat_high a 1 0 (i + 1) (omega arith) (omega arith)
    ∙ ap (bit_at a) index in
    bit_at_or _ b (i + 1) ∙ (λ p. max (moved p) (none p)) ∙ omega arith

bit_is : (set : Bool) (b : ℕ) → b ≡ bool_byte set → (b ≡ (if set then 1 else 0)) × (b < 2)
bit_is true b is = (is, omega (arith, is))
bit_is false b is = (is, omega (arith, is))

pub returns-clause-lowest : goal.returns-clause-lowest
returns-clause-lowest c =
    let bit = bit_is _ _ c.from.ensures in first_bit c.args.word c.from.result bit.1 ∙ bit.0

pub returns-clause-rest : goal.returns-clause-rest
returns-clause-rest c = λ i inside. later_bit c.args.word c.from.result i (bit_is _ _ c.from.ensures).1 inside
