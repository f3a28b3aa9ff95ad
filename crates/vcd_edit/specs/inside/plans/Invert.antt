-- The inverse of a value as a row of blocks.
use Rattle.std.specs.Prelude.{◌≡◌, ◌<◌, ◌/◌, ◌%◌, ℕ, List, length}
use Rattle.vcd_core.specs.declared.bit.Bit.{Bit}
use Rattle.vcd_core.specs.declared.letter_block.LetterBlock.{LetterBlock}
use Rattle.vcd_core.specs.Value.{letter_at}
use Rattle.vcd_core.specs.BlockRows.{letter_in, block_at}
use Rattle.vcd_edit.specs.Operators.{not_bit}

-- each letter below a limit is the negated one
unfoldable pub ShowsInverse : ℕ → List Bit → List LetterBlock → Type 0
ShowsInverse limit value blocks = (k : ℕ) → k < limit → k < length value
    → letter_in (block_at blocks (k / 64)) (k % 64) ≡ not_bit (letter_at value k)
