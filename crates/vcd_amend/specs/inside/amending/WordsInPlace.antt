-- The words that take the place of those of a `$var`.
use Rattle.std.specs.Prelude.{◌==◌, ◌+◌, ◌-◌, nat_lt, ℕ, List, [], ◌∷◌}
use Rattle.std.specs.Prelude.{if◌then◌else◌, slice_index_or}

-- the word at an index of a `$var` with this code and these name words in the place of its own
abbrev pub word_in_place : ℕ → (own : List ℕ) → (names : List (List ℕ)) → (code : List ℕ) → List ℕ
word_in_place index own names code =
    if index == 3 then code else (if nat_lt index 3 then own else slice_index_or names (index - 4)
    own)

-- those of words from an index on
abbrev pub words_in_place : ℕ → (own : List (List ℕ)) → (names : List (List ℕ)) → (code : List ℕ)
    → List (List ℕ)
words_in_place index [] names code = []
words_in_place index (w ∷ ws) names code =
    word_in_place index w names code ∷ words_in_place (index + 1) ws names code
