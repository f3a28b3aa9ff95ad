-- The bits of two planes, after writes to their words.
use Rattle.std.proofs.Common.{◌≡◌, ◌≢◌, ℕ, zero, suc, ◌+◌, ◌-◌, ◌*◌, ◌/◌, ◌%◌, ◌^◌, ◌<◌, ◌≤◌, min, List, [], ◌∷◌}
use Rattle.std.proofs.Common.{length, replicate, get_or, sym, ap, ◌∙◌, arith, inl, inr}
use Rattle.std.proofs.Math.ListN.{set}
use Rattle.std.specs.Int.{bit_at}
use Rattle.std.specs.Int.Bits.{bit_and}
use Rattle.std.proofs.lemmas.Nat.Bits.{bit_at_ones, bit_at_ones_above, bit_at-zero, bit_at-lt, bit_at_and}
use Rattle.std.proofs.lemmas.List.{get_or-set_same, get_or-set_other, get_or-replicate, length-replicate, length-set}
use Rattle.std.proofs.lemmas.Bool.{cases_eq}
use Rattle.vcd_core.specs.declared.letter_block.LetterBlock.{LetterBlock}
use Rattle.vcd_core.specs.BlockRows.{block_at}
use Rattle.vcd_core.specs.inside.Planes.{plane_bit}

-- the bits of the written word
pub plane_bit-set_same : (words : List ℕ) (plane j x k : ℕ) → j < length words → 2 * (k / 64) + plane ≡ j
    → plane_bit plane (set words j x) k ≡ bit_at x (k % 64)
unfolding plane_bit
plane_bit-set_same words plane j x k within here = ap (λ i. bit_at (get_or (set words j x) i 0) (k % 64)) here
    ∙ ap (λ w. bit_at w (k % 64)) (get_or-set_same words j x 0 within)

-- the bits of the other words
pub plane_bit-set_other : (words : List ℕ) (plane j x k : ℕ) → 2 * (k / 64) + plane ≢ j
    → plane_bit plane (set words j x) k ≡ plane_bit plane words k
unfolding plane_bit
plane_bit-set_other words plane j x k elsewhere =
    ap (λ w. bit_at w (k % 64)) (get_or-set_other words j (2 * (k / 64) + plane) x 0 elsewhere)

-- where the new word differs from the old one in one bit alone, so do the planes
pub plane_bit-write : (words : List ℕ) (plane k x : ℕ) → plane < 2 → 2 * (k / 64) + plane < length words
    → ((i : ℕ) → i < 64 → i ≢ k % 64 → bit_at x i ≡ bit_at (get_or words (2 * (k / 64) + plane) 0) i)
    → (other i : ℕ) → other < 2 → (other ≡ plane → i ≢ k)
    → plane_bit other (set words (2 * (k / 64) + plane) x) i ≡ plane_bit other words i
unfolding plane_bit
plane_bit-write words plane k x which within others other i which' apart =
    elim (cases_eq (2 * (i / 64) + other) (2 * (k / 64) + plane)) [
      | inl index ↦
          let low : i % 64 < 64 = omega arith in
          let same : other ≡ plane = omega arith in
          let differs : i % 64 ≢ k % 64 = omega (arith, apart same) in
          plane_bit-set_same words other (2 * (k / 64) + plane) x i within index ∙ others (i % 64) low differs
          ∙ ap (λ j. bit_at (get_or words j 0) (i % 64)) (sym index)
      | inr elsewhere ↦ plane_bit-set_other words other (2 * (k / 64) + plane) x i elsewhere
    ]

-- ---- a word of each plane

-- the lowest `left` bits of a word
pub masked : (w left i : ℕ) → i < left → i < 64 → bit_at (bit_and w (2 ^ min left 64 - 1)) i ≡ bit_at w i
masked w left i below inside =
    let one : bit_at (2 ^ min left 64 - 1) i ≡ 1 = bit_at_ones (min left 64) i (omega arith) in
    let small : bit_at w i < 2 = bit_at-lt w i in
    bit_at_and w (2 ^ min left 64 - 1) i ∙ ap (min (bit_at w i)) one ∙ omega (arith, small)

pub masked_above : (w left i : ℕ) → left ≤ i → i < 64 → bit_at (bit_and w (2 ^ min left 64 - 1)) i ≡ 0
masked_above w left i above inside =
    let none : bit_at (2 ^ min left 64 - 1) i ≡ 0 = bit_at_ones_above (min left 64) i (omega arith) in
    bit_at_and w (2 ^ min left 64 - 1) i ∙ ap (min (bit_at w i)) none ∙ omega arith

-- the word of a block for the low plane (0) or the high plane (1)
abbrev pub word_in : ℕ → LetterBlock → ℕ
word_in zero block = block.low
word_in (suc _) block = block.high

-- the words at j of both planes are written
abbrev pub both_set : List ℕ → ℕ → ℕ → ℕ → List ℕ
both_set words j low high = set (set words (2 * j) low) (2 * j + 1) high

module _ (words : List ℕ) (j : ℕ) (f : ℕ → ℕ) (block : LetterBlock) (within : 2 * j + 1 < length words) where
  here_set : (plane k : ℕ) → plane < 2 → k / 64 ≡ j
      → plane_bit plane (both_set words j (f block.low) (f block.high)) k ≡ bit_at (f (word_in plane block)) (k % 64)
  here_set zero k which here =
      let elsewhere : 2 * (k / 64) + 0 ≢ 2 * j + 1 = omega arith in
      plane_bit-set_other (set words (2 * j) (f block.low)) 0 (2 * j + 1) (f block.high) k elsewhere
      ∙ plane_bit-set_same words 0 (2 * j) (f block.low) k (omega arith) (omega arith)
  here_set (suc zero) k which here = plane_bit-set_same (set words (2 * j) (f block.low)) 1 (2 * j + 1) (f block.high) k
      (omega (arith, length-set words (2 * j) (f block.low))) (omega arith)
  here_set (suc (suc _)) k which here = absurd (omega arith)

  others_kept : (plane k : ℕ) → plane < 2 → k / 64 ≢ j
      → plane_bit plane (both_set words j (f block.low) (f block.high)) k ≡ plane_bit plane words k
  others_kept plane k which elsewhere =
      let first : 2 * (k / 64) + plane ≢ 2 * j + 1 = omega arith in
      let second : 2 * (k / 64) + plane ≢ 2 * j = omega arith in
      plane_bit-set_other (set words (2 * j) (f block.low)) plane (2 * j + 1) (f block.high) k first
      ∙ plane_bit-set_other words plane (2 * j) (f block.low) k second

-- the first words of both planes hold the letters of a row of blocks that are below the width
pub record HoldsBlocks (n width j : ℕ) (planes : List ℕ) (blocks : List LetterBlock) : Type 0 where
  pub bits : (plane k : ℕ) → plane < 2 → k < 64 * j → k < width
      → plane_bit plane planes k ≡ bit_at (word_in plane (block_at blocks (k / 64))) (k % 64)
  pub clear : (plane k : ℕ) → plane < 2 → width ≤ k → k < 64 * n → plane_bit plane planes k ≡ 0

-- one more block
pub one_more : (n width j left : ℕ) (planes : List ℕ) (blocks : List LetterBlock) → length planes ≡ 2 * n → j < n
    → left ≡ width - 64 * j → HoldsBlocks n width j planes blocks
    → HoldsBlocks n width (j + 1)
    (both_set planes j (bit_and (block_at blocks j).low (2 ^ min left 64 - 1))
    (bit_and (block_at blocks j).high (2 ^ min left 64 - 1))) blocks
one_more n width j left planes blocks sized within is holds =
    let cut : ℕ → ℕ = λ w. bit_and w (2 ^ min left 64 - 1) in
    let block = block_at blocks j in
    let inside : 2 * j + 1 < length planes = omega arith in
    record {
      bits = λ plane k which below in_width. elim (cases_eq (k / 64) j) [
        | inl here ↦ here_set planes j cut block inside plane k which here
            ∙ masked (word_in plane block) left (k % 64) (omega arith) (omega arith)
            ∙ ap (λ i. bit_at (word_in plane (block_at blocks i)) (k % 64)) (sym here)
        | inr elsewhere ↦ others_kept planes j cut block inside plane k which elsewhere
            ∙ holds.bits plane k which (omega arith) in_width
      ];
      clear = λ plane k which out below. elim (cases_eq (k / 64) j) [
        | inl here ↦ here_set planes j cut block inside plane k which here
            ∙ masked_above (word_in plane block) left (k % 64) (omega arith) (omega arith)
        | inr elsewhere ↦ others_kept planes j cut block inside plane k which elsewhere
            ∙ holds.clear plane k which out below
      ];
    }

-- planes of zeros hold no letters
pub none_held : (n width : ℕ) (blocks : List LetterBlock) → HoldsBlocks n width 0 (replicate (2 * n) 0) blocks
unfolding plane_bit
none_held n width blocks = record {
  bits = λ plane k _ below _. absurd (omega arith);
  clear = λ plane k which _ below. ap (λ w. bit_at w (k % 64))
      (get_or-replicate (2 * n) (2 * (k / 64) + plane) 0 0 (omega arith)) ∙ bit_at-zero (k % 64);
}

-- a word of each plane, the others zero
pub block_held : (n width mask : ℕ) (block : LetterBlock) → 0 < n → mask ≡ 2 ^ min width 64 - 1
    → HoldsBlocks n width 1 (both_set (replicate (2 * n) 0) 0 (bit_and block.low mask) (bit_and block.high mask))
    (block ∷ [])
block_held n width mask block some is =
    rw is (one_more n width 0 width (replicate (2 * n) 0) (block ∷ []) (length-replicate (2 * n) 0) some (omega arith)
    (none_held n width (block ∷ [])))
