-- The law that a file has one cut: its pieces are found, and only in one way. The project's own.
use Rattle.std.specs.Prelude.{◌≡◌, ℕ, List, map}
use Rattle.vcd_text.specs.Words.{words_of}
use Rattle.vcd_text.specs.Items.{Item, spellings}
use Rattle.vcd_text.specs.Grammar.{word_texts}
use Rattle.vcd_copy.specs.Pieces.{Piece, IsCut}

-- every file whose words spell items is cut into the pieces of these items
abbrev pub EveryFileIsCut : Type 0
EveryFileIsCut = (file : List ℕ) (items : List Item) → word_texts (words_of file) ≡ spellings items
    → (pieces : List Piece) × (tail : List ℕ) × IsCut file pieces tail
    × (map (λ p. p.item) pieces ≡ items)

-- a file is cut into the pieces of items in one way
abbrev pub CutIsUnique : Type 0
CutIsUnique = (file : List ℕ) (pieces again : List Piece) (tail last : List ℕ)
    → IsCut file pieces tail → IsCut file again last
    → map (λ p. p.item) pieces ≡ map (λ p. p.item) again → (pieces ≡ again) × (tail ≡ last)
