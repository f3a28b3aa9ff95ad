-- The last changes of codes, as they are held and written.
use Rattle.std.specs.Prelude.{ℕ, List, [], ◌∷◌, map}
use Rattle.std.specs.List.{flat_map}
use Rattle.vcd_part.specs.declared.first_values.FirstValues.{FirstValues}

-- the bytes of each change
abbrev pub bodies : FirstValues → List (List ℕ)
bodies v = map (λ value. value.items) v.values.items

-- a change on a line of its own; nothing without a byte
abbrev pub line_of : List ℕ → List ℕ
line_of [] = []
line_of (b ∷ bs) = 10 ∷ b ∷ bs

-- the lines of changes
abbrev pub lines_of : List (List ℕ) → List ℕ
lines_of values = flat_map line_of values
