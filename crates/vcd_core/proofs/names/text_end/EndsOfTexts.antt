-- A text ends with another only if their ends agree.
use Rattle.std.proofs.Common.{◌≡◌, ℕ, ◌+◌, ◌-◌, ◌*◌, ◌/◌, ◌%◌, ◌^◌, ◌≤◌, inl, inr, List, [], ◌∷◌, ◌++◌, refl, sym, ap}
use Rattle.std.proofs.Common.{subst, ◌∙◌, arith}
use Rattle.std.specs.Prelude.{◌==◌, IsTrue}
use Rattle.std.specs.Int.Bits.{bit_and}
use Rattle.std.proofs.lemmas.Bool.{cases_lt, eq-eqb}
use Rattle.std.proofs.lemmas.Nat.{and_mask, pow_pos}
use Rattle.std.proofs.Math.Nat.{mul_assoc, mul_comm, div-add-mod, mul-add-mod_self_right}
use Rattle.std.proofs.Math.Pow.{pow-add, pow_mono, mod-mod-pow}
use Rattle.vcd_core.specs.declared.names.text_end.TextEnd.{TextEnd}
use Rattle.vcd_core.specs.inside.names.TextEnd.{longer_end, end_after, text_end}

-- the number that the last n bytes of a number make
abbrev lowest : ℕ → ℕ → ℕ
lowest n x = x % 2 ^ (8 * n)

fewer_of_lowest : (n m x : ℕ) → m ≤ n → lowest m (lowest n x) ≡ lowest m x
fewer_of_lowest n m x fewer =
    ap (λ k. x % 2 ^ k % 2 ^ (8 * m)) {x = 8 * n} {y = (8 * n - 8 * m) + 8 * m} (omega (arith, fewer))
    ∙ mod-mod-pow x (8 * n - 8 * m) (8 * m)

one_more : (n : ℕ) → 2 ^ (8 * (n + 1)) ≡ 2 ^ (8 * n) * 256
one_more n = ap (λ k. 2 ^ k) {x = 8 * (n + 1)} {y = 8 * n + 8} (omega arith) ∙ pow-add 2 (8 * n) 8

-- after one byte more, n + 1 of them depend on n of those before
byte_added : (n x byte : ℕ) → lowest (n + 1) (x * 256 + byte) ≡ lowest (n + 1) (lowest n x * 256 + byte)
byte_added n x byte =
    let P = 2 ^ (8 * n) in
    let q = x / P in
    let moved : q * 2 ^ (8 * (n + 1)) ≡ P * q * 256 =
    ap (λ k. q * k) (one_more n) ∙ sym (mul_assoc q P 256) ∙ ap (λ k. k * 256) (mul_comm q P) in
    let parts : P * q + x % P ≡ x = div-add-mod x P in
    ap (lowest (n + 1)) {x = x * 256 + byte} {y = q * 2 ^ (8 * (n + 1)) + (x % P * 256 + byte)}
    (omega (arith, moved, parts))
    ∙ mul-add-mod_self_right q (2 ^ (8 * (n + 1))) (x % P * 256 + byte)

lowest_after : (n m x byte : ℕ) → m ≤ n + 1 → m ≤ 16
    → lowest m ((x * 256 % 2 ^ 128 + byte) % 2 ^ 128) ≡ lowest m (lowest n x * 256 + byte)
lowest_after n m x byte fewer few =
    ap (lowest m) {x = (x * 256 % 2 ^ 128 + byte) % 2 ^ 128} {y = lowest 16 (x * 256 + byte)} (omega arith)
    ∙ fewer_of_lowest 16 m (x * 256 + byte) few
    ∙ sym (fewer_of_lowest (n + 1) m (x * 256 + byte) fewer)
    ∙ ap (lowest m) (byte_added n x byte)
    ∙ fewer_of_lowest (n + 1) m (lowest n x * 256 + byte) fewer

-- two ends agree in as many bytes as the second has
record Agree (s t : TextEnd) : Type 0 where
  count : ℕ
  few : count ≤ 16
  mask : t.mask ≡ 2 ^ (8 * count) - 1
  bytes : lowest count s.bytes ≡ lowest count t.bytes

longer_agree : (s t : TextEnd) (byte : ℕ) → Agree s t → Agree (longer_end s byte) (longer_end t byte)
longer_agree s t byte agree = elim (cases_lt agree.count 16) [
  | inl fewer ↦
      let more : 2 ^ (8 * (agree.count + 1))
      ≤ 2 ^ 128 = pow_mono {i = 8 * (agree.count + 1)} {j = 128} (omega (arith, fewer)) in
      counted (agree.count + 1) (omega arith) (omega (arith, fewer))
      (omega (arith, agree.mask, one_more agree.count, pow_pos (8 * agree.count), more))
  | inr full ↦
      let all : agree.count ≡ 16 = omega (arith, full, agree.few) in
      counted 16 (omega (arith, all)) (omega arith)
      (omega (arith, agree.mask ∙ ap (λ n. 2 ^ (8 * n) - 1) all))
]
  where
    counted : (n : ℕ) → n ≤ agree.count + 1 → n ≤ 16 → (longer_end t byte).mask ≡ 2 ^ (8 * n) - 1
        → Agree (longer_end s byte) (longer_end t byte)
    counted n fewer few mask = record {
      count = n;
      few = few;
      mask = mask;
      bytes = lowest_after agree.count n s.bytes byte fewer few
          ∙ ap (λ x. lowest n (x * 256 + byte)) agree.bytes
          ∙ sym (lowest_after agree.count n t.bytes byte fewer few);
    }

-- ends that agree still do after the same bytes
after_agree : (s t : TextEnd) (text : List ℕ) → Agree s t → Agree (end_after s text) (end_after t text)
unfolding end_after
after_agree s t [] agree = agree
after_agree s t (byte ∷ text) agree =
    after_agree (longer_end s byte) (longer_end t byte) text (longer_agree s t byte agree)

-- the end of a text in two parts
end_of_both : (end : TextEnd) (prefix text : List ℕ)
    → end_after end (prefix ++ text) ≡ end_after (end_after end prefix) text
unfolding end_after
end_of_both end [] text = refl
end_of_both end (byte ∷ prefix) text = end_of_both (longer_end end byte) prefix text

-- a text that ends with another passes the test
pub passes_test : (s t : TextEnd) (text prefix end : List ℕ) → s ≡ text_end text → t ≡ text_end end → text ≡ prefix
    ++ end → IsTrue (bit_and s.bytes t.mask == bit_and t.bytes t.mask)
passes_test s t text prefix end is other ends =
    let start : TextEnd = record { bytes = 0; mask = 0 } in
    let first : TextEnd = end_after start prefix in
    let agree : Agree (end_after first end) (end_after start end) = after_agree first start end (record {
      count = 0;
      few = omega arith;
      mask = refl;
      bytes = omega arith;
    }) in
    let agreed : Agree s t = subst (λ (both : TextEnd × TextEnd). Agree both.0 both.1)
    (λ i. (sym (is ∙ ap text_end ends ∙ end_of_both start prefix end) i, sym other i)) agree in
    eq-eqb _ _ (ap (bit_and s.bytes) agreed.mask ∙ and_mask s.bytes (8 * agreed.count) ∙ agreed.bytes
    ∙ sym (ap (bit_and t.bytes) agreed.mask ∙ and_mask t.bytes (8 * agreed.count)))
