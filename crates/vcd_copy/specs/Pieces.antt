-- A file cut into pieces, an item each, with all their bytes. The project's own.
use Rattle.std.specs.Prelude.{◌≡◌, ℕ, ◌<◌, List, [], ◌∷◌, ◌++◌, map, length, drop, All, IsTrue}
use Rattle.std.specs.Prelude.{decimal}
use Rattle.std.specs.List.{flat_map, list_all, prefix_len, suffix_len}
use Rattle.vcd_core.specs.Word.{is_white_space}
use Rattle.vcd_text.specs.Words.{words_of}
use Rattle.vcd_text.specs.Items.{Item, stamp, spelling}
use Rattle.vcd_text.specs.Grammar.{ParseState, initial_state, state_after, word_texts}

-- an item with its bytes in a file: the white space before it, and its words with the white space
-- between them
pub record Piece : Type 0 where
  pub item : Item
  pub space : List ℕ
  pub body : List ℕ

-- the bytes of pieces
abbrev pub piece_bytes : List Piece → List ℕ
piece_bytes pieces = flat_map (λ p. p.space ++ p.body) pieces

-- a stamp on a line of its own
abbrev pub stamp_line : ℕ → Piece
stamp_line t = record { item = stamp (decimal t); space = 10 ∷ []; body = 35 ∷ decimal t }

-- the file is these pieces, one after another, and white space at its end: each body spells its
-- item, without white space at either end, and white space stands between two bodies
pub record IsCut (file : List ℕ) (pieces : List Piece) (tail : List ℕ) : Type 0 where
  pub whole : file ≡ flat_map (λ p. p.space ++ p.body) pieces ++ tail
  pub spelled : All (λ p. word_texts (words_of p.body) ≡ spelling p.item) pieces
  pub tight : All (λ p. (prefix_len is_white_space p.body ≡ 0)
      × (suffix_len is_white_space p.body ≡ 0)) pieces
  pub spaces : All (λ p. IsTrue (list_all is_white_space p.space)) pieces
  pub apart : All (λ p. 0 < length p.space) (drop 1 pieces)
  pub end : IsTrue (list_all is_white_space tail)

-- the state after the pieces of a file
abbrev pub state_of_pieces : (limit : ℕ) → List Piece → ParseState
state_of_pieces limit pieces = state_after (initial_state limit) (map (λ p. p.item) pieces)
