-- The letters of blocks of 64 letters, and of rows of them: the project's own.
use Rattle.std.specs.Prelude.{ℕ, zero, suc, ◌≡◌, ◌<◌, ◌+◌, ◌-◌, ◌/◌, ◌%◌, if◌then◌else◌, nat_lt}
use Rattle.std.specs.Prelude.{List, length, map, slice_index_or}
use Rattle.std.specs.List.{range_with_len}
use Rattle.std.specs.Int.{bit_at}
use Rattle.vcd_core.specs.declared.bit.Bit.{Bit}
use Rattle.vcd_core.specs.declared.bit.Bit.TheVariants.{Zero, One, X, Z}
use Rattle.vcd_core.specs.declared.letter_block.LetterBlock.{LetterBlock}
use Rattle.vcd_core.specs.Value.{letter_at}

-- the letter with this low and high bit
abbrev pub letter_of : ℕ → ℕ → Bit
letter_of zero zero = Zero
letter_of (suc _) zero = One
letter_of (suc _) (suc _) = X
letter_of zero (suc _) = Z

-- the low bit of a letter
abbrev pub low_of : Bit → ℕ
low_of Zero = 0
low_of One = 1
low_of X = 1
low_of Z = 0

-- the high bit of a letter
abbrev pub high_of : Bit → ℕ
high_of Zero = 0
high_of One = 0
high_of X = 1
high_of Z = 1

-- the letter at bit i of a block
abbrev pub letter_in : LetterBlock → ℕ → Bit
letter_in block i = letter_of (bit_at block.low i) (bit_at block.high i)

-- the block at this index of a row
abbrev pub block_at : List LetterBlock → ℕ → LetterBlock
block_at blocks j = slice_index_or blocks j (record { low = 0; high = 0 })

-- the letters of a row of blocks, most significant first
unfoldable pub letters_of : ℕ → List LetterBlock → List Bit
letters_of width blocks =
    map (λ i. let k = width - 1 - i in letter_in (block_at blocks (k / 64)) (k % 64))
    (range_with_len 0 width)

-- the letter at bit k of some letters, or this letter past them
abbrev pub letter_or : Bit → List Bit → ℕ → Bit
letter_or pad letters k = if nat_lt k (length letters) then letter_at letters k else pad

-- a block holds the letters from a bit on, and past them this letter
pub record HoldsLetters (pad : Bit) (letters : List Bit) (from : ℕ) (block : LetterBlock)
    : Type 0 where
  pub each : (i : ℕ) → i < 64 → letter_in block i ≡ letter_or pad letters (from + i)
