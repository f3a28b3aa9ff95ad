-- The lines of a script: the project's own.
use Rattle.std.specs.Prelude.{ℕ, ◌==◌, if◌then◌else◌, List, [], ◌∷◌}
use Rattle.std.specs.List.{onto_first}

-- each line ends at a line feed (10); text after the last line feed is a line, too
unfoldable pub script_lines : List ℕ → List (List ℕ)
script_lines [] = []
script_lines (b ∷ bs) = if b == 10 then [] ∷ script_lines bs else onto_first b (script_lines bs)
