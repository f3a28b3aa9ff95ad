-- What codes mean in the part, and their last changes.
use Rattle.std.specs.Prelude.{◌≡◌, ℕ, Bool, true, false, List, [], map, length, option_map}
use Rattle.std.specs.Prelude.{bytes_eq, position, unwrap_or, ◌<◌, All, Some}
use Rattle.vcd_text.specs.Items.{Item}
use Rattle.vcd_text.specs.Grammar.{VariableDeclaration}
use Rattle.vcd_copy.specs.Pieces.{Piece}
use Rattle.vcd_copy.specs.Copied.{value_code, real_or_string_code}
use Rattle.vcd_text.specs.inside.reading.CodeTargets.{code_target}
use Rattle.vcd_part.specs.declared.code_uses.CodeUse.{CodeUse}
use Rattle.vcd_part.specs.declared.code_uses.CodeUses.{CodeUses}
use Rattle.vcd_part.specs.declared.request.Request.{Request}
use Rattle.vcd_part.specs.PartPieces.{is_used, has_signal, lasting_codes, last_such, is_change_of}
use Rattle.vcd_part.specs.inside.FirstValues.{bodies}

-- what a code means in the part of a file with these declarations
abbrev pub use_of : Request → List VariableDeclaration → (code : List ℕ) → CodeUse
use_of r declared code = record {
  is_used = is_used r declared code;
  has_signal = has_signal declared code;
  index = position (bytes_eq code) (lasting_codes r declared);
}

-- it has what each code means, and room for the last change of each one whose values last
pub record AreUses (c : CodeUses) (r : Request) (declared : List VariableDeclaration) : Type 0 where
  pub uses : (code : List ℕ) → code_target c.uses code ≡ use_of r declared code
  pub count : length (bodies c.first) ≡ length (lasting_codes r declared)

-- the body of the last change of a code among these pieces; nothing if there is none
abbrev pub last_body : List VariableDeclaration → List Piece → (code : List ℕ) → List ℕ
last_body declared before code =
    unwrap_or (option_map (λ p. p.body) (last_such (is_change_of declared code) before)) []

-- it holds the last changes among these pieces, which all have a byte
pub record HoldLast (c : CodeUses) (r : Request) (declared : List VariableDeclaration)
    (before : List Piece) : Type 0 where
  pub are : bodies c.first ≡ map (last_body declared before) (lasting_codes r declared)
  pub some : All (λ p. 0 < length p.body) before

-- an item is a change of this code, to a real number or a string, or to digits
abbrev pub IsChangeItem : Item → (is_text : Bool) → (code : List ℕ) → Type 0
IsChangeItem i true code = real_or_string_code i ≡ Some code
IsChangeItem i false code = value_code i ≡ Some code
