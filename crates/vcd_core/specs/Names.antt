-- How the names of scopes and variables are joined and looked up: the project's own.
use Rattle.std.specs.Prelude.{ℕ, Bool, Option, Some, ◌==◌, ◌&&◌, ◌++◌, false, if◌then◌else◌, nat_lt}
use Rattle.std.specs.Prelude.{List, [], ◌∷◌, length, map, drop}
use Rattle.std.specs.List.{concat, join_with_byte, position}
use Rattle.std.specs.Str.{bytes_eq}
use Rattle.vcd_core.specs.declared.capture.ScopeName.{ScopeName}
use Rattle.vcd_core.specs.Contents.{SignalContents}
use Rattle.vcd_core.specs.Decimal.{is_number, number_of}

-- the name of a scope, its words run together; empty if it has no words
abbrev pub scope_text : ScopeName → List ℕ
scope_text scope = concat scope.words

-- the full name of these words in these scopes: the names of the scopes and its own, joined by `.`
-- (46)
unfoldable pub name_in : List ScopeName → List (List ℕ) → List ℕ
name_in scopes words = join_with_byte 46 (map scope_text scopes ++ concat words ∷ [])

-- the full name of a signal
abbrev pub full_name : SignalContents → List ℕ
full_name s = name_in s.scopes s.words

-- the full names of the signals, in their order
abbrev pub full_names : List SignalContents → List (List ℕ)
full_names signals = map full_name signals

-- whether a name is `@` (64) and a decimal number
abbrev pub is_numbered : List ℕ → Bool
is_numbered [] = false
is_numbered (c ∷ digits) = c == 64 && is_number digits

-- the number after the `@` of such a name
abbrev pub number_in : List ℕ → ℕ
number_in name = number_of (drop 1 name)

-- the position that a name names: k for `@k` if there is a signal k, or the first with that full
-- name
unfoldable pub lookup : List SignalContents → List ℕ → Option ℕ
lookup signals name =
    if is_numbered name && nat_lt (number_in name) (length signals)
    then Some (number_in name)
    else position (bytes_eq name) (full_names signals)
