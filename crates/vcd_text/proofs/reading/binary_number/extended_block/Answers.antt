use Rattle.std.proofs.Common.{◌≡◌, ◌≤◌, ℕ, List, [], ◌∷◌, Option, Some, None, length, arith}
use Rattle.std.specs.Prelude.{MatchOption}
use Rattle.std.proofs.lemmas.List.{length-map}
use Rattle.vcd_core.specs.declared.bit.Bit.{Bit}
use Rattle.vcd_core.specs.BlockRows.{letters_of, HoldsLetters}
use Rattle.vcd_core.specs.declared.letter_block.LetterBlock.{LetterBlock}
use Rattle.vcd_text.specs.Letters.{pad_letter, extension}
use Rattle.vcd_text.proofs.reading.digit_blocks.LetterBlocks.{block_is_extension}
use Rattle.vcd_text.proofs.reading.binary_number.extended_block.Goals as goal

-- if the block that was read holds the letters, it is the extension
of_the_word : (width : ℕ) (s : List Bit) (pad : Bit) (P A : Type 0) (o : Option LetterBlock) → length s ≤ width
    → width ≤ 64 → pad ≡ pad_letter s → MatchOption o P (λ w. A × HoldsLetters pad s 0 w)
    → MatchOption o P (λ w. A × (letters_of width (w ∷ []) ≡ extension width s))
of_the_word width s pad P A None fits narrow is p = p
of_the_word width s pad P A (Some w) fits narrow is (a, holds) = grind (arith, block_is_extension)

pub returns : goal.returns
returns c = grind (arith, length-map, of_the_word)
