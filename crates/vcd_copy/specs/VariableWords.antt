-- The words of a `$var` in its bytes, for the contracts of what reads them (`VariableWords`).
use Rattle.std.specs.Prelude.{◌≡◌, ℕ, List, ◌∷◌}
use Rattle.vcd_text.specs.Words.{words_of}
use Rattle.vcd_text.specs.Grammar.{word_texts}
use Rattle.vcd_text.specs.Items.{spelling, variable}

-- these bytes are a `$var` of these words
pub record IsVariable (body kind size code : List ℕ) (names : List (List ℕ)) : Type 0 where
  pub spelled : word_texts (words_of body) ≡ spelling (variable (kind ∷ size ∷ code ∷ names))
