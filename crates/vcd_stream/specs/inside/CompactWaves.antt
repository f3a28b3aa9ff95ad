-- The changes of compact waves.
use Rattle.std.specs.Prelude.{ℕ, ◌≡◌, ◌≤◌, List, [], ◌∷◌, map}
use Rattle.vcd_core.specs.declared.bit.Bit.{Bit}
use Rattle.vcd_core.specs.declared.wave.Change.{Change}
use Rattle.vcd_core.specs.BlockRows.{letters_of}
use Rattle.vcd_core.specs.Wave.{change}
use Rattle.vcd_stream.specs.declared.compact_wave.compact_values.CompactValues.{CompactValues}
use Rattle.vcd_stream.specs.declared.compact_wave.compact_values.CompactValues.TheVariants as values

-- the letters of the values, which have this width
abbrev pub letters_of_values : ℕ → CompactValues → List (List Bit)
letters_of_values width (values.Bits bits) = map (λ bit. bit ∷ []) bits.items
letters_of_values width (values.Blocks blocks) =
    map (λ block. letters_of width (block ∷ [])) blocks.items
letters_of_values width (values.Wide wave) = map (λ c. c.value) wave.changes

-- values of this width can be in such a list
abbrev pub FitsWidth : ℕ → CompactValues → Type 0
FitsWidth width (values.Bits _) = width ≡ 1
FitsWidth width (values.Blocks _) = width ≤ 64
FitsWidth width (values.Wide _) = Unit {0}

-- the changes at these ticks to these values
abbrev pub changes_to : List ℕ → List (List Bit) → List Change
changes_to [] vs = []
changes_to (t ∷ ts) [] = []
changes_to (t ∷ ts) (v ∷ vs) = change t v ∷ changes_to ts vs
