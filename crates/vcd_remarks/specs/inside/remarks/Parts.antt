-- The remarks as the code appends their parts.
use Rattle.std.specs.Prelude.{ℕ, List, ◌++◌, codes}
use Rattle.std.specs.Fmt.{decimal}

-- the number of a line, before a remark
abbrev pub remark_head : ℕ → List ℕ
remark_head number = codes "line " ++ decimal number ++ codes ": "
