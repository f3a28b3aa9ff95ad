-- What codes mean in the amended file.
use Rattle.std.specs.Prelude.{ℕ, List, Option, bytes_eq}
use Rattle.std.specs.List.{position_from}
use Rattle.vcd_amend.specs.Amendment.{AmendedCode}

-- which amended code this code is, if it is one
abbrev pub amended_index : (code : List ℕ) → List AmendedCode → Option ℕ
amended_index code cs = position_from (λ c. bytes_eq code c.code) 0 cs
