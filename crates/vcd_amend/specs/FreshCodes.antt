-- The fresh codes of a file: those of a written text that no variable of the file has. The
-- project's own.
use Rattle.std.specs.Prelude.{◌≡◌, ℕ, ◌+◌, Bool, not, ◌&&◌, List, [], map, length, is_some}
use Rattle.std.specs.Prelude.{IsTrue, None, bytes_eq, get_or}
use Rattle.std.specs.List.{filter, range_with_len}
use Rattle.vcd_core.specs.Word.{is_word}
use Rattle.vcd_text.specs.Items.{end_word}
use Rattle.vcd_text.specs.Grammar.{ParseState, variable_of}
use Rattle.vcd_text.specs.Text.{code_of}

-- whether a code is fresh: no variable of the file has it, and it is not `$end`
abbrev pub is_fresh : ParseState → (code : List ℕ) → Bool
is_fresh s code = not (is_some (variable_of s code)) && not (bytes_eq code end_word)

-- the fresh codes among those of the first positions, in their order
abbrev pub fresh_codes : ParseState → (positions : ℕ) → List (List ℕ)
fresh_codes s positions = filter (is_fresh s) (map code_of (range_with_len 0 positions))

-- fresh code n, counted from 0. It is among these: each variable has one code, and `$end` is one
abbrev pub fresh_code : ParseState → ℕ → List ℕ
fresh_code s n = get_or (fresh_codes s (n + length s.declared + 2)) n []

-- ---- the laws

-- fresh codes are words, no variable of the file has one, and no two are the same
pub record AreFresh (s : ParseState) (codes : ℕ → List ℕ) : Type 0 where
  pub words : (n : ℕ) → IsTrue (is_word (codes n))
  pub unknown : (n : ℕ) → variable_of s (codes n) ≡ None
  pub apart : (m n : ℕ) → codes m ≡ codes n → m ≡ n

-- there are always fresh codes
abbrev pub FreshCodesAreFresh : Type 0
FreshCodesAreFresh = (s : ParseState) → AreFresh s (fresh_code s)

-- the code of a position, if it is fresh, is the fresh code whose number is the count of fresh
-- codes before it
abbrev pub FreshCodesAreInOrder : Type 0
FreshCodesAreInOrder = (s : ParseState) (position : ℕ) → IsTrue (is_fresh s (code_of position))
    → fresh_code s (length (fresh_codes s position)) ≡ code_of position
