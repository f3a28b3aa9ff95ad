-- The part of a value's line before the code.
use Rattle.std.specs.Prelude.{◌≡◌, ◌<◌, ◌≤◌, ◌+◌, ◌-◌, ℕ, Bool, true, false, List, [], ◌∷◌, ◌++◌}
use Rattle.vcd_core.specs.declared.bit.Bit.{Bit}
use Rattle.vcd_core.specs.declared.letter_block.LetterBlock.{LetterBlock}
use Rattle.vcd_core.specs.Value.{printed_letter, same_letter}
use Rattle.vcd_core.specs.BlockRows.{letter_in}
use Rattle.vcd_text.specs.Letters.{pad_letter, printed_letters, short_form}

-- one letter, or `b` (98), the short form and a space (32)
abbrev pub value_before_code : List Bit → List ℕ
value_before_code (b ∷ []) = printed_letter b ∷ []
value_before_code value = (98 ∷ []) ++ (printed_letters (short_form value) ++ 32 ∷ [])

-- whether the extension restores the letter of bit i + 1 of a block from that of bit i
abbrev pub is_redundant_above : LetterBlock → ℕ → Bool
is_redundant_above block i =
    same_letter (pad_letter (letter_in block i ∷ [])) (letter_in block (i + 1))

-- how many of the `count` lowest letters of a block the short form writes; at least one
pub record IsShortFormLen (count : ℕ) (block : LetterBlock) (len : ℕ) : Type 0 where
  pub least : 1 ≤ len
  pub most : len ≤ count
  pub redundant : (i : ℕ) → len ≤ i + 1 → i + 1 < count → is_redundant_above block i ≡ true
  pub needed : 1 < len → is_redundant_above block (len - 2) ≡ false
