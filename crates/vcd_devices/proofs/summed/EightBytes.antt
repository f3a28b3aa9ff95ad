-- The sum of eight bytes is added at once.
use Rattle.std.proofs.Common.{◌≡◌, ℕ, zero, suc, ◌+◌, ◌*◌, ◌%◌, ◌^◌, ◌<◌, List, [], ◌∷◌, length, take, drop}
use Rattle.std.proofs.Common.{get_or, refl, sym, ap, ◌∙◌, arith}
use Rattle.std.specs.List.{fold}
use Rattle.std.specs.Simd.{first_chunks}
use Rattle.std.proofs.lemmas.List.{drop-drop}
use Rattle.std.proofs.lemmas.List.Sums.{fold-append}
use Rattle.std.proofs.lemmas.Nat.{mul-mod_first, mul-mod_second}
use Rattle.std.proofs.Math.Nat.{add-mod-mod, mod-add-mod, mul_assoc, pow-succ', mod-eq_of_lt}
use Rattle.std.proofs.Math.Seq.{take-add}
use Rattle.vcd_devices.specs.Sums.{with_byte}
use Rattle.vcd_devices.specs.declared.summed.TheConstants.{FACTOR, FACTOR_OF_EIGHT}

abbrev limit : ℕ
limit = 2 ^ 64

-- a byte after a sum of two parts
byte_after : (a b byte : ℕ) → with_byte ((a + b) % limit) byte ≡ (a * FACTOR + with_byte b byte) % limit
byte_after a b byte =
    let same : (a + b) * FACTOR + byte ≡ a * FACTOR + (b * FACTOR + byte) = omega arith in
    sym (mod-add-mod ((a + b) % limit * FACTOR) limit byte)
    ∙ ap (λ r. (r + byte) % limit) (mul-mod_first (a + b) FACTOR limit)
    ∙ mod-add-mod ((a + b) * FACTOR) limit byte
    ∙ ap (λ r. r % limit) same
    ∙ sym (add-mod-mod (a * FACTOR) (b * FACTOR + byte) limit)

-- bytes after a sum of two parts
in_parts : (a b : ℕ) (bytes : List ℕ)
    → fold with_byte ((a + b) % limit) bytes ≡ (a * FACTOR ^ length bytes + fold with_byte b bytes) % limit
in_parts a b [] = ap (λ r. (r + b) % limit) (omega arith)
in_parts a b (byte ∷ bytes) =
    ap (λ r. fold with_byte r bytes) (byte_after a b byte)
    ∙ in_parts (a * FACTOR) (with_byte b byte) bytes
    ∙ ap (λ r. (r + fold with_byte b (byte ∷ bytes)) % limit) (one_more a (length bytes))
  where
    one_more : (a n : ℕ) → a * FACTOR * FACTOR ^ n ≡ a * FACTOR ^ suc n
    one_more a n = mul_assoc a FACTOR (FACTOR ^ n) ∙ ap (λ r. a * r) (sym (pow-succ' FACTOR n))

-- eight bytes at once
pub eight_after : (sum product all : ℕ) (eight : List ℕ) → sum < limit → length eight ≡ 8
    → product ≡ (sum * FACTOR_OF_EIGHT) % limit → all ≡ (product + fold with_byte 0 eight) % limit
    → all ≡ fold with_byte sum eight
eight_after sum product all eight small eights product_is all_is =
    all_is
    ∙ ap (λ r. (r + fold with_byte 0 eight) % limit) (product_is ∙ mul-mod_second sum (FACTOR ^ 8) limit)
    ∙ mod-add-mod (sum * FACTOR ^ 8) limit (fold with_byte 0 eight)
    ∙ ap (λ n. (sum * FACTOR ^ n + fold with_byte 0 eight) % limit) (sym eights)
    ∙ sym (in_parts sum 0 eight)
    ∙ ap (λ r. fold with_byte r eight) (ap (λ r. r % limit) (omega arith) ∙ mod-eq_of_lt small)

-- the eights of a list, one after another
eight_at : (count i : ℕ) (bytes : List ℕ) → i < count
    → get_or (first_chunks 8 count bytes) i [] ≡ take 8 (drop (8 * i) bytes)
eight_at zero i bytes within = absurd (omega arith)
eight_at (suc count) zero bytes within = refl
eight_at (suc count) (suc i) bytes within =
    let index : 8 + 8 * i ≡ 8 * suc i = omega arith in
    eight_at count i (drop 8 bytes) (omega arith)
    ∙ ap (take 8) (drop-drop (8 * i) 8 bytes ∙ ap (λ n. drop n bytes) index)

-- the sum of all eights up to one, and that one
pub eight_more : (bytes : List ℕ) (eights : List (List ℕ)) (count i start sum all : ℕ)
    → eights ≡ first_chunks 8 count bytes → i < count → sum ≡ fold with_byte start (take (8 * i) bytes)
    → all ≡ fold with_byte sum (get_or eights i []) → all ≡ fold with_byte start (take (8 * (i + 1)) bytes)
eight_more bytes eights count i start sum all is within sum_is all_is =
    let index : 8 * i + 8 ≡ 8 * (i + 1) = omega arith in
    all_is
    ∙ (λ j. fold with_byte (sum_is j) ((ap (λ l. get_or l i []) is ∙ eight_at count i bytes within) j))
    ∙ sym (fold-append with_byte start (take (8 * i) bytes) (take 8 (drop (8 * i) bytes)))
    ∙ ap (fold with_byte start) (sym (take-add (8 * i) 8 bytes) ∙ ap (λ n. take n bytes) index)
