-- A block whose letters past a width are 0 is that of its letters below it.
use Rattle.std.proofs.Common.{◌≡◌, ℕ, zero, suc, ◌*◌, ◌^◌, ◌-◌, ◌<◌, ◌≤◌, min, nat_lt, List, [], ◌∷◌, length}
use Rattle.std.proofs.Common.{sym, ap, pow-suc, ◌∙◌, arith, inl, inr}
use Rattle.std.specs.Int.{bit_at}
use Rattle.std.specs.Int.Bits.{bit_and}
use Rattle.std.proofs.lemmas.Nat.Bits.{bit_at-lt, bit_at_lowest, bit_at_and, bit_at_ones, bit_at_ones_above}
use Rattle.std.proofs.lemmas.Nat.Bits.{same_from_bits_below}
use Rattle.std.proofs.lemmas.Bool.{cases_lt, lt-ltb, le-ltb, cond_both}
use Rattle.vcd_core.specs.declared.bit.Bit.{Bit}
use Rattle.vcd_core.specs.declared.letter_block.LetterBlock.{LetterBlock}
use Rattle.vcd_core.specs.BlockRows.{letter_in, letter_of, letters_of, low_of, high_of}
use Rattle.vcd_core.specs.Value.{letter_at}
use Rattle.vcd_core.specs.inside.Planes.{number}
use Rattle.vcd_core.specs.inside.value.PlanesOfLetters.{bit_at-number, low_of-letter_of, high_of-letter_of}
use Rattle.vcd_core.proofs.shared.LettersOfPlanes.{letter_at-letters_of, length-letters_of, same_letter_at, one_block}
use Rattle.vcd_compare.specs.inside.NarrowValue.{bit_of, block_of}

bit_times-≤ : (b m : ℕ) → b < 2 → b * m ≤ m
bit_times-≤ zero m small = omega arith
bit_times-≤ (suc zero) m small = omega arith
bit_times-≤ (suc (suc b)) m small = absurd (omega arith)

number-lt : (f : ℕ → ℕ) (n : ℕ) → ((i : ℕ) → f i < 2) → number f n < 2 ^ n
unfolding number
number-lt f zero small = omega arith
number-lt f (suc n) small =
    omega (arith, pow-suc 2 n, number-lt f n small, bit_times-≤ (f n) (2 ^ n) (small n))

-- a word is the number of its bits
pub number_is : (f : ℕ → ℕ) (word : ℕ) → word < 2 ^ 64 → ((i : ℕ) → f i < 2)
    → ((i : ℕ) → i < 64 → f i ≡ bit_at word i) → number f 64 ≡ word
number_is f word fits small same = same_from_bits_below 64 (number f 64) word (number-lt f 64 small) fits
    (λ i inside. bit_at-number f 64 i small inside ∙ same i inside)

-- a letter of a block
pub letter_here : (width : ℕ) (block : LetterBlock) (k : ℕ) → k < width → width ≤ 64
    → letter_at (letters_of width (block ∷ [])) k ≡ letter_in block k
letter_here width block k within narrow =
    letter_at-letters_of width (block ∷ []) k within ∙ one_block block k (omega arith)

module _ (width low high : ℕ) (block : LetterBlock) (narrow : width ≤ 64)
    (low_is : low ≡ bit_and block.low (2 ^ min width 64 - 1))
    (high_is : high ≡ bit_and block.high (2 ^ min width 64 - 1)) where
  abbrev cut : LetterBlock
  cut = record { low = low; high = high }

  bit_below : (word part i : ℕ) → part ≡ bit_and word (2 ^ min width 64 - 1) → i < width
      → bit_at part i ≡ bit_at word i
  bit_below word part i is below =
      let one : bit_at (2 ^ min width 64 - 1) i ≡ 1 = bit_at_ones (min width 64) i (omega (arith, narrow)) in
      let small = bit_at-lt word i in
      ap (λ m. bit_at m i) is ∙ bit_at_and word (2 ^ min width 64 - 1) i ∙ ap (min (bit_at word i)) one
      ∙ omega (arith, small)

  bit_above : (word part i : ℕ) → part ≡ bit_and word (2 ^ min width 64 - 1) → width ≤ i → bit_at part i ≡ 0
  bit_above word part i is above =
      let none : bit_at (2 ^ min width 64 - 1) i ≡ 0 = bit_at_ones_above (min width 64) i (omega (arith, above)) in
      ap (λ m. bit_at m i) is ∙ bit_at_and word (2 ^ min width 64 - 1) i ∙ ap (min (bit_at word i)) none ∙ omega arith

  -- a block without its letters past the width has the same letters
  pub same_cut : letters_of width (cut ∷ []) ≡ letters_of width (block ∷ [])
  same_cut =
      let long = length-letters_of width (cut ∷ []) in
      same_letter_at _ _ (long ∙ sym (length-letters_of width (block ∷ []))) (λ k within.
      let below : k < width = omega (arith, long) in
      letter_here width cut k below narrow
      ∙ (λ p. letter_of (bit_below block.low low k low_is below p) (bit_below block.high high k high_is below p))
      ∙ sym (letter_here width block k below narrow))

  -- the bit of a letter, and of none past the width
  bit_is : (side : Bit → ℕ) (word part i : ℕ) → part ≡ bit_and word (2 ^ min width 64 - 1)
      → side (letter_in cut i) ≡ bit_at part i → bit_of side (letters_of width (cut ∷ [])) i ≡ bit_at part i
  bit_is side word part i is here =
      let long = length-letters_of width (cut ∷ []) in
      let small = bit_at-lt part i in
      elim (cases_lt i width) [
        | inl below ↦
            rw (lt-ltb i (length (letters_of width (cut ∷ []))) (omega (arith, long)))
            (ap (λ b. bit_at (side b) 0) (letter_here width cut i below narrow) ∙ ap (λ n. bit_at n 0) here
            ∙ bit_at_lowest (bit_at part i) ∙ omega (arith, small))
        | inr above ↦
            rw (le-ltb i (length (letters_of width (cut ∷ []))) (omega (arith, long)))
            (sym (bit_above word part i is above))
      ]

  bit_of-lt : (side : Bit → ℕ) (v : List Bit) (i : ℕ) → bit_of side v i < 2
  bit_of-lt side v i =
      cond_both (nat_lt i (length v)) _ _ (λ b. b < 2) (λ _. bit_at-lt (side (letter_at v i)) 0) (λ _. omega arith)

  -- its letters give it back
  pub block_is : low < 2 ^ 64 → high < 2 ^ 64 → block_of (letters_of width (cut ∷ [])) ≡ cut
  unfolding block_of
  block_is fits fits_too = λ p. record {
    low = number_is (bit_of low_of (letters_of width (cut ∷ []))) low fits (bit_of-lt low_of _)
        (λ i inside. bit_is low_of block.low low i low_is (low_of-letter_of _ _ (bit_at-lt _ _))) p;
    high = number_is (bit_of high_of (letters_of width (cut ∷ []))) high fits_too (bit_of-lt high_of _)
        (λ i inside. bit_is high_of block.high high i high_is (high_of-letter_of _ _ (bit_at-lt _ _))) p;
  }
