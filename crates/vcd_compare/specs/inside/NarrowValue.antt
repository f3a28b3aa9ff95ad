-- Values of at most 64 bits: their letters, and the fields that these give back.
use Rattle.std.specs.Prelude.{◌≡◌, ℕ, ◌≤◌, if◌then◌else◌, nat_lt, List, [], ◌∷◌, length}
use Rattle.std.specs.Int.{bit_at}
use Rattle.vcd_core.specs.declared.bit.Bit.{Bit}
use Rattle.vcd_core.specs.declared.letter_block.LetterBlock.{LetterBlock}
use Rattle.vcd_core.specs.Value.{letter_at}
use Rattle.vcd_core.specs.BlockRows.{letters_of, low_of, high_of}
use Rattle.vcd_core.specs.inside.Planes.{number}
use Rattle.vcd_core.proofs.shared.LettersOfPlanes.{length-letters_of}
use Rattle.vcd_compare.specs.declared.narrow_value.NarrowValue.TheInside.{Inside}

-- the letters of a value
abbrev pub view_narrow : Inside → List Bit
view_narrow v = letters_of v.width (v.block ∷ [])

-- the low or the high bit of a letter, which `side` gives; 0 past the letters
abbrev pub bit_of : (side : Bit → ℕ) → List Bit → ℕ → ℕ
bit_of side v i = if nat_lt i (length v) then bit_at (side (letter_at v i)) 0 else 0

-- the block with these letters, and 0 past them
unfoldable pub block_of : List Bit → LetterBlock
block_of v = record { low = number (bit_of low_of v) 64; high = number (bit_of high_of v) 64 }

-- the value with these letters
abbrev pub narrow_of : List Bit → Inside
narrow_of v = record { width = length v; block = block_of v }

-- a value of 1 to 64 bits
pub record IsNarrow (v : Inside) : Type 0 where
  pub least : 1 ≤ v.width
  pub most : v.width ≤ 64
  pub block : block_of (view_narrow v) ≡ v.block

-- the letters of a value give the value
pub narrow_of-view_narrow : (v : Inside) → IsNarrow v → narrow_of (view_narrow v) ≡ v
narrow_of-view_narrow v is = λ p. record {
  width = length-letters_of v.width (v.block ∷ []) p;
  block = is.block p;
}
