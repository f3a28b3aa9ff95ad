-- Where a line of a script ends.
use Rattle.std.specs.Prelude.{ℕ, Bool, true, ◌==◌, List, [], ◌∷◌}

-- whether a line ends before these bytes: a line feed (10) follows, or nothing
abbrev pub is_after_line : List ℕ → Bool
is_after_line [] = true
is_after_line (b ∷ bs) = b == 10
