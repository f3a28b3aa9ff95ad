-- The words of a text in which each comes after a space (32).
use Rattle.std.specs.Prelude.{ℕ, Bool, true, ◌==◌, List, [], ◌∷◌, if◌then◌else◌}

-- whether a byte is a space
abbrev pub is_space : ℕ → Bool
is_space byte = byte == 32

-- whether a text is empty, or begins with a space
abbrev pub begins_with_space : List ℕ → Bool
begins_with_space [] = true
begins_with_space (byte ∷ text) = is_space byte

-- the bytes before the first space, and the words after the spaces
abbrev pub with_byte : ℕ → List ℕ × List (List ℕ) → List ℕ × List (List ℕ)
with_byte byte (before, words) =
    if is_space byte then ([], before ∷ words) else (byte ∷ before, words)

unfoldable pub split_at_spaces : List ℕ → List ℕ × List (List ℕ)
split_at_spaces [] = ([], [])
split_at_spaces (byte ∷ text) = with_byte byte (split_at_spaces text)

-- the words of a text that is empty or begins with a space
abbrev pub words_of_text : List ℕ → List (List ℕ)
words_of_text text = (split_at_spaces text).1
