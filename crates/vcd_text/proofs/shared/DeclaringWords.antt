-- The words of a `$var` that is allowed, and what they declare.
use Rattle.std.proofs.Common.{◌≡◌, ℕ, true, List, [], ◌∷◌, Some, refl}
use Rattle.std.proofs.lemmas.Bool.{and_parts}
use Rattle.vcd_core.specs.Decimal.{is_number, number_of}
use Rattle.vcd_text.specs.Items.{variable, has_no_end_word}
use Rattle.vcd_text.specs.Grammar.{ParseState, VariableDeclaration, Allows, declaration_of}

-- the declaration of these words, while the scopes of a state are open
abbrev pub declared_in : ParseState → (kind size code : List ℕ) → (names : List (List ℕ)) → VariableDeclaration
declared_in s kind size code names =
    record { scopes = s.scopes; kind = kind; size = number_of size; code = code; words = names }

pub record Declares (words : List (List ℕ)) : Type 0 where
  pub kind : List ℕ
  pub size : List ℕ
  pub code : List ℕ
  pub names : List (List ℕ)
  pub words_are : words ≡ kind ∷ size ∷ code ∷ names
  pub number : is_number size ≡ true
  pub finds : (s : ParseState) → declaration_of s words ≡ Some (declared_in s kind size code names)

pub declares : (s : ParseState) (words : List (List ℕ)) → Allows s (variable words) → Declares words
declares s [] allowed = absurd (cc (allowed.1))
declares s (kind ∷ []) allowed = absurd (cc (allowed.1))
declares s (kind ∷ size ∷ []) allowed = absurd (cc (allowed.1))
declares s (kind ∷ size ∷ code ∷ []) allowed = absurd (cc (allowed.1))
declares s (kind ∷ size ∷ code ∷ name ∷ names) allowed = record {
  kind = kind;
  size = size;
  code = code;
  names = name ∷ names;
  words_are = refl;
  number = (and_parts (has_no_end_word (kind ∷ size ∷ code ∷ name ∷ names)) (is_number size)
      (and_parts _ _ allowed.0).1).1;
  finds = λ s. refl;
}
