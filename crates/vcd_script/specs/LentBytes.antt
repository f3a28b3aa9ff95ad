-- The words of an edit are borrowed bytes, as `Edit` is a type of the code.
use Rattle.std.specs.Prelude.{ℕ, List}
use Rattle.std.specs.Borrow.{Bor}

-- bytes as a borrow, at an address that no definition uses
abbrev pub lent_bytes : List ℕ → Bor (List ℕ)
lent_bytes bytes = record { ref_ptr = (0, 0); now = bytes }
