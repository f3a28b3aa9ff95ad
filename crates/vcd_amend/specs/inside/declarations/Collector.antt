-- What was collected of a file.
use Rattle.std.specs.Prelude.{◌≡◌, ℕ, List, map, IfSome}
use Rattle.vcd_core.specs.Decimal.{number_of}
use Rattle.vcd_core.specs.declared.capture.ScopeName.{ScopeName}
use Rattle.vcd_copy.specs.Pieces.{Piece, state_of_pieces}
use Rattle.vcd_amend.specs.DeclaredVariables.{declaration_of_variable}
use Rattle.vcd_amend.specs.declared.declarations.DeclaredVariable.{DeclaredVariable}
use Rattle.vcd_amend.specs.declared.declarations.collector.Collector.{Collector}

-- the variables of these pieces were collected; a state's limit is of no meaning here
pub record HasCollected (m : Collector) (pieces : List Piece) : Type 0 where
  pub declared : map declaration_of_variable m.declared.items ≡ (state_of_pieces 0 pieces).declared
  pub path : IfSome m.path (λ known. known ≡ (state_of_pieces 0 pieces).scopes)
  pub done : m.is_done ≡ (state_of_pieces 0 pieces).in_body

-- the variable of a `$var` with these words in these scopes
abbrev pub IsDeclared : DeclaredVariable → List ScopeName → (kind size code : List ℕ)
    → (names : List (List ℕ)) → Type 0
IsDeclared variable scopes kind size code names = declaration_of_variable variable ≡ record {
  scopes = scopes;
  kind = kind;
  size = number_of size;
  code = code;
  words = names;
}
