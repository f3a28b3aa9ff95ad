-- The bytes of a full name, from the parts that a `FullName` keeps.
use Rattle.std.specs.Prelude.{ℕ, List, [], ◌∷◌, ◌++◌, if◌then◌else◌}
use Rattle.std.specs.List.{concat}
use Rattle.vcd_core.specs.declared.names.full_name.FullName.{FullName}
use Rattle.vcd_core.specs.Names.{name_in}

-- the bytes after the current scope or name: after a scope a `.` (46) and the name in the scopes
-- that follow
abbrev pub bytes_after : FullName → List ℕ
bytes_after n = if n.in_scope then 46 ∷ name_in n.scopes.now (n.first.now ∷ n.others.now) else []

-- the bytes of the name: the current word, the words after it, and the rest
abbrev pub name_bytes : FullName → List ℕ
name_bytes n = n.text.now ++ (concat n.words.now ++ bytes_after n)
