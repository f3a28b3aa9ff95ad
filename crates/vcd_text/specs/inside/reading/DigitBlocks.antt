-- Letters that are read 64 at a time, from the last.
use Rattle.std.specs.Prelude.{ℕ, ◌-◌, ◌*◌, Bool, List, ◌++◌, length, slice_range, codes}
use Rattle.vcd_core.specs.declared.bit.Bit.{Bit}
use Rattle.vcd_core.specs.declared.letter_block.LetterBlock.{LetterBlock}
use Rattle.vcd_core.specs.BlockRows.{HoldsLetters}
use Rattle.vcd_text.specs.Letters.{is_among}

-- the digits of the 64 letters from bit 64 * k on
abbrev pub digits_of : List ℕ → ℕ → List ℕ
digits_of digits k = let end = length digits - 64 * k in slice_range digits (end - 64) end

-- letters are added at the low end of a block, whatever it holds and whatever extends that
abbrev pub AddsLetters : List Bit → (old new : LetterBlock) → Type 0
AddsLetters more old new = (pad : Bit) (s : List Bit) → HoldsLetters pad s 0 old
    → HoldsLetters pad (s ++ more) 0 new

-- whether a digit is 0 or 1
abbrev pub is_two_state : ℕ → Bool
is_two_state digit = is_among (codes "01") digit
