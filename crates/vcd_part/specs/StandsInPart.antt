-- What stands of a file in its part, and at which tick, for those who use it. It follows from the
-- exact pieces (`PartPieces`). The project's own.
use Rattle.std.specs.Prelude.{◌≡◌, ℕ, ◌-◌, ◌&&◌, Bool, not, nat_lt, min, if◌then◌else◌, List, []}
use Rattle.std.specs.Prelude.{◌∷◌, ◌++◌, map, filter, drop, Option, Some, None, is_some}
use Rattle.std.specs.Prelude.{option_to_list}
use Rattle.std.specs.List.{list_any}
use Rattle.vcd_text.specs.Items.{Item, scalar, vector, real_or_string}
use Rattle.vcd_text.specs.Grammar.{VariableDeclaration}
use Rattle.vcd_copy.specs.Pieces.{Piece}
use Rattle.vcd_copy.specs.Copied.{may_be_amended}
use Rattle.vcd_copy.specs.Ticks.{tick_after_item}
use Rattle.vcd_text.specs.declared.reading.choice.TickRange.{TickRange}
use Rattle.vcd_part.specs.declared.request.Request.{Request}
use Rattle.vcd_part.specs.PartPieces.{is_used, is_within, first_pieces, comment_piece}
use Rattle.vcd_part.specs.PartPieces.{kept_count, all_count}

-- the code of a change
abbrev pub change_code : Item → Option (List ℕ)
change_code (scalar digit code) = Some code
change_code (vector first digits code) = Some code
change_code (real_or_string first text code) = Some code
change_code i = None

-- whether an item is a change of a code that a kept variable has
abbrev pub is_used_change : Request → List VariableDeclaration → Item → Bool
is_used_change r declared i = list_any (is_used r declared) (option_to_list (change_code i))

-- the pieces whose items pass a test, each with its tick, among pieces that come after a stamp of
-- `now`
unfoldable pub with_ticks : (test : Item → Bool) → (now : ℕ) → List Piece → List (ℕ × Piece)
with_ticks test now [] = []
with_ticks test now (p ∷ ps) = (if test p.item then (now, p) ∷ [] else [])
    ++ with_ticks test (tick_after_item now p.item) ps

-- the same at the ticks of a part with this window
abbrev pub retimed : TickRange → List (ℕ × Piece) → List (ℕ × Piece)
retimed w ps = map (λ q. (min w.last q.0 - w.first, q.1)) ps

-- the pieces before the first stamp past a tick
unfoldable pub pieces_up_to : (tick : ℕ) → List Piece → List Piece
pieces_up_to tick [] = []
pieces_up_to tick (p ∷ ps) = if nat_lt tick (tick_after_item 0 p.item) then []
    else p ∷ pieces_up_to tick ps

-- the changes at tick 0 of a window that begins later: the last one up to there of each code
abbrev pub changes_before : Request → TickRange → List VariableDeclaration → List Piece
    → List (ℕ × Piece)
changes_before r w declared pieces = if nat_lt 0 w.first
    then map (λ p. (0, p)) (drop 1 (first_pieces r declared (pieces_up_to w.first pieces))) else []

-- these pieces stand in the part of a file of pieces with these variables
pub record StandInPart (r : Request) (w : TickRange) (declared : List VariableDeclaration)
    (pieces part : List Piece) : Type 0 where
  -- its changes are those within the window of all codes that kept variables have, in their order,
  -- after the last ones up to the first tick of a window that begins later
  pub changes : with_ticks (λ i. is_some (change_code i)) 0 part
      ≡ changes_before r w declared pieces
      ++ retimed w (filter (λ q. is_within w q.0 && is_used_change r declared q.1.item)
      (with_ticks (λ i. is_some (change_code i)) 0 pieces))
  -- what is neither a variable, a stamp nor a change stands in its order, with the comment among it
  pub first : List (ℕ × Piece)
  pub later : List (ℕ × Piece)
  pub space : List ℕ
  pub others : retimed w (with_ticks (λ i. not (may_be_amended i)) 0 pieces) ≡ first ++ later
  pub others_in_part : with_ticks (λ i. not (may_be_amended i)) 0 part ≡ first
      ++ (0, comment_piece w (kept_count r declared) (all_count declared) space) ∷ later
