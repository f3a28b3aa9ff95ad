-- What a mark says, line by line: the project's own.
use Rattle.std.specs.Prelude.{ℕ, if◌then◌else◌, List, [], ◌∷◌, ◌++◌}
use Rattle.std.specs.Prelude.{length, take, drop, codes, bytes_eq, Option, Some, None}
use Rattle.std.specs.List.{flat_map}
use Rattle.vcd_script.specs.Script.{script_lines}

-- the rest of each line that begins with these bytes
abbrev pub rests_after : (first : List ℕ) → (lines : List (List ℕ)) → List (List ℕ)
rests_after first [] = []
rests_after first (line ∷ lines) = if bytes_eq (take (length first) line) first
    then drop (length first) line ∷ rests_after first lines else rests_after first lines

-- the same of the lines of a mark
abbrev pub said_after : (first mark : List ℕ) → List (List ℕ)
said_after first mark = rests_after first (script_lines mark)

-- the script of a mark: its lines of edits
abbrev pub script_of : (mark : List ℕ) → List ℕ
script_of mark = flat_map (λ line. line ++ 10 ∷ []) (said_after (codes "edit ") mark)

-- the first of some lines, or none
abbrev pub first_line : (lines : List (List ℕ)) → Option (List ℕ)
first_line [] = None
first_line (line ∷ lines) = Some line
