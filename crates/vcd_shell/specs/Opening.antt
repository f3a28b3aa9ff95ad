-- Where the bytes of an input come from. The rules are the project's own.
use Rattle.std.specs.Prelude.{ℕ, Bool, not, MatchBool, List, codes, Option, Some, None}
use Rattle.std.specs.Borrow.{Bor}
use Rattle.std.specs.Str.{bytes_eq}
use Rattle.vcd_shell.specs.declared.opening.Origin.{Origin}
use Rattle.vcd_shell.specs.declared.opening.Origin.TheVariants.{Standard, File}

-- an input that is read from standard input
abbrev pub IsStandard : {S F : Type 0} → Origin S F → Type 0
IsStandard (Standard reader) = Unit {0}
IsStandard (File file) = ⊥

-- an input that is read from a file
abbrev pub IsFile : {S F : Type 0} → Origin S F → Type 0
IsFile (Standard reader) = ⊥
IsFile (File file) = Unit {0}

-- whether a path names a file: `-` means standard input
abbrev pub names_file : List ℕ → Bool
names_file path = not (bytes_eq path (codes "-"))

-- the capture comes from the named file, or from standard input without one
abbrev pub CaptureComesFrom : {S F : Type 0} → Option (Bor (List ℕ)) → Origin S F → Type 0
CaptureComesFrom None origin = IsStandard origin
CaptureComesFrom (Some path) origin =
    MatchBool (names_file path.now) (IsFile origin) (IsStandard origin)

-- the bytes to come from an input, if they are known
abbrev pub bytes_to_come : {S F : Type 0} → (S → Option (List ℕ)) → (F → Option (List ℕ))
    → Origin S F → Option (List ℕ)
bytes_to_come of_standard of_file (Standard reader) = of_standard reader
bytes_to_come of_standard of_file (File file) = of_file file
