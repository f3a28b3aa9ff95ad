-- The lines of the last changes are the bytes of the pieces that the part begins with.
use Rattle.std.proofs.Common.{◌≡◌, ◌<◌, ℕ, Bool, true, false, List, [], ◌∷◌, ◌++◌, length, map, Option, Some, None}
use Rattle.std.proofs.Common.{refl, sym, ap, ap₂, ◌∙◌, arith, if◌then◌else◌}
use Rattle.std.specs.Prelude.{option_to_list, unwrap_or, option_map, All, IfSome}
use Rattle.std.specs.Option.{option_or}
use Rattle.std.specs.List.{flat_map}
use Rattle.std.proofs.lemmas.Grind.{flat_map-append}
use Rattle.std.proofs.lemmas.List.{append-nil}
use Rattle.std.proofs.lemmas.List.Concat.{flat_map-cons}
use Rattle.std.proofs.lemmas.List.Elements.{All-head, All-tail}
use Rattle.vcd_text.specs.Grammar.{VariableDeclaration}
use Rattle.vcd_text.specs.Items.{Item}
use Rattle.vcd_copy.specs.Pieces.{Piece}
use Rattle.vcd_part.specs.PartPieces.{last_such, is_change_of, on_own_line}
use Rattle.vcd_copy.specs.Pieces.{piece_bytes}
use Rattle.vcd_part.specs.inside.CodeUses.{last_body}
use Rattle.vcd_part.specs.inside.FirstValues.{line_of, lines_of}

abbrev pub HasByte : Piece → Type 0
HasByte p = 0 < length p.body

-- the last of pieces that all have a byte has one
last_has_byte : (test : Item → Bool) (before : List Piece) → All HasByte before
    → IfSome (last_such test before) HasByte
unfolding last_such
last_has_byte test [] each = tt
last_has_byte test (p ∷ ps) each =
    choose (last_such test ps) (test p.item) (last_has_byte test ps (All-tail HasByte p ps each))
  where
    choose : (o : Option Piece) (b : Bool) → IfSome o HasByte
        → IfSome (option_or o (if b then Some p else None)) HasByte
    choose (Some q) b later = later
    choose None true later = All-head HasByte p ps each
    choose None false later = tt

-- the line of one change
line_is : (o : Option Piece) → IfSome o HasByte → line_of (unwrap_or (option_map (λ p. p.body) o) [])
    ≡ piece_bytes (map on_own_line (option_to_list o))
line_is None some = refl
line_is (Some p) some = with_byte p.body some
  where
    with_byte : (bytes : List ℕ) → 0 < length bytes → line_of bytes ≡ (10 ∷ bytes) ++ []
    with_byte [] some = absurd (omega arith)
    with_byte (b ∷ bytes) some = sym (append-nil (10 ∷ b ∷ bytes))

-- of each code the last change on a line of its own
abbrev pub pieces_of : List VariableDeclaration → List Piece → (code : List ℕ) → List Piece
pieces_of declared before code = map on_own_line (option_to_list (last_such (is_change_of declared code) before))

pub lines_are : (declared : List VariableDeclaration) (before : List Piece) → All HasByte before
    → (all : List (List ℕ)) → lines_of (map (last_body declared before) all)
    ≡ piece_bytes (flat_map (pieces_of declared before) all)
lines_are declared before each [] = refl
lines_are declared before each (code ∷ all) =
    let bytes : Piece → List ℕ = λ p. p.space ++ p.body in
    flat_map-cons line_of (last_body declared before code) (map (last_body declared before) all)
    ∙ ap₂ (λ a b. a ++ b)
    (line_is (last_such (is_change_of declared code) before) (last_has_byte (is_change_of declared code) before each))
    (lines_are declared before each all)
    ∙ sym (flat_map-append bytes (pieces_of declared before code) (flat_map (pieces_of declared before) all))
    ∙ ap piece_bytes (sym (flat_map-cons (pieces_of declared before) code all))
