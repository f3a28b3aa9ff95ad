-- A line of a reply as text.
use Rattle.std.specs.Prelude.{ℕ, List, [], ◌∷◌, ◌++◌}

-- a line of a reply, which ends with a line feed (10)
abbrev pub with_line_feed : List ℕ → List ℕ
with_line_feed bytes = bytes ++ 10 ∷ []
