-- The folder of a file, and the one in which an output is written. That one's name is the project's
-- own.
use Rattle.std.specs.Prelude.{ℕ, List, [], ◌∷◌, ◌++◌, codes, Option, None, Some}

-- the folder of a path that has this parent, by which it can be opened
abbrev pub folder_of : (parent : Option (List ℕ)) → List ℕ
folder_of None = codes "."
folder_of (Some []) = codes "."
folder_of (Some (letter ∷ letters)) = letter ∷ letters

-- the name of the folder for an output, from that of its target: a dot makes it hidden
abbrev pub folder_name : (name : List ℕ) → List ℕ
folder_name name = codes "." ++ name ++ codes ".vcdedit"
