-- Patterns of full names, over bytes: the project's own.
use Rattle.std.specs.Prelude.{ℕ, Bool, false, ◌==◌, ◌&&◌, ◌||◌, if◌then◌else◌}
use Rattle.std.specs.Prelude.{List, [], ◌∷◌, length}

-- whether a test holds of the bytes, or of those after some of them
abbrev pub holds_after_some : (List ℕ → Bool) → List ℕ → Bool
holds_after_some test [] = test []
holds_after_some test (b ∷ bytes) = test (b ∷ bytes) || holds_after_some test bytes

-- whether the first byte is that of a pattern, where `?` (63) is any, and a test holds of the
-- others
abbrev pub holds_after_byte : ℕ → (List ℕ → Bool) → List ℕ → Bool
holds_after_byte wanted test [] = false
holds_after_byte wanted test (b ∷ bytes) = (wanted == 63 || wanted == b) && test bytes

-- whether a name meets a pattern: `*` (42) is any bytes, `?` any one, and another byte itself
unfoldable pub meets : (pattern name : List ℕ) → Bool
meets [] name = length name == 0
meets (c ∷ pattern) name = if c == 42 then holds_after_some (meets pattern) name
    else holds_after_byte c (meets pattern) name
