-- The part as a copy, in which a stamp waits until something of the part is at its tick.
use Rattle.std.specs.Prelude.{◌≡◌, ℕ, if◌then◌else◌, List, [], ◌∷◌, ◌++◌}
use Rattle.vcd_core.specs.declared.device.Sink as sinks
use Rattle.vcd_copy.specs.Copied.{CopyRules, copied}
use Rattle.vcd_text.specs.EmittedText.{Emits}
use Rattle.vcd_copy.specs.Pieces.{Piece, piece_bytes}
use Rattle.vcd_text.specs.declared.writing.output.Output.{Output}
use Rattle.vcd_part.specs.declared.request.Request.{Request}
use Rattle.vcd_part.specs.PartPieces.{is_stamp, is_later_stamp, pieces_of_step, pieces_at_end}
use Rattle.vcd_part.specs.PartPieces.{part_pieces}

-- ---- pieces of the part, while a stamp may wait

-- a stamp of a tick above 0 waits once it has come
abbrev pub waiting_piece : Piece → List Piece
waiting_piece p = if is_later_stamp p.item then p ∷ [] else []

-- what waits after these pieces, if this waited before
unfoldable pub waiting_after : (waiting : List Piece) → List Piece → List Piece
waiting_after waiting [] = waiting
waiting_after waiting (p ∷ ps) = waiting_after (waiting_piece p) ps

-- what is settled once this piece has come: what waited, unless another stamp follows it, and the
-- piece, unless it waits
abbrev pub settled_piece : (waiting : List Piece) → Piece → List Piece
settled_piece waiting p = if is_later_stamp p.item then []
    else (if is_stamp p.item then [] else waiting) ++ p ∷ []

-- what is settled once these pieces have come, if this waited before
unfoldable pub settled_after : (waiting : List Piece) → List Piece → List Piece
settled_after waiting [] = []
settled_after waiting (p ∷ ps) =
    settled_piece waiting p ++ settled_after (waiting_piece p) ps

-- the same, once they are the last ones
abbrev pub last_settled : (waiting : List Piece) → List Piece → List Piece
last_settled waiting ps = settled_after waiting ps ++ waiting_after waiting ps

-- what is settled of these pieces is written, and what waits is held
abbrev pub IsPut : {W : Type 0} → (sink : sinks.Ghosts W) → (old new : Output W)
    → (held_before held : List ℕ) → List Piece → Type 0
IsPut sink old new held_before held ps = (waiting : List Piece)
    → held_before ≡ piece_bytes waiting
    → Emits sink old new (piece_bytes (settled_after waiting ps))
    × (held ≡ piece_bytes (waiting_after waiting ps))

-- ---- the copy

-- what waits after these pieces of the file, which come after others
unfoldable pub waiting_from : Request → (before waiting : List Piece) → List Piece → List Piece
waiting_from r before waiting [] = waiting
waiting_from r before waiting (p ∷ ps) = waiting_from r (before ++ p ∷ [])
    (waiting_after waiting (pieces_of_step r before p)) ps

-- the stamp of the part that waits after these pieces of the file, if one does
abbrev pub waiting_stamp : Request → (before : List Piece) → List Piece
waiting_stamp r before = waiting_from r [] [] before

-- the part as a copy
abbrev pub part_rules : Request → CopyRules
part_rules r = record {
  in_place = λ before p.
      piece_bytes (settled_after (waiting_stamp r before) (pieces_of_step r before p));
  before_others = λ before. piece_bytes (waiting_stamp r before);
  at_end = λ pieces tail.
      piece_bytes (last_settled (waiting_stamp r pieces) (pieces_at_end r pieces)) ++ tail;
}

-- the copy of a file by the rules of a part has the pieces of the part
abbrev pub PartIsCopied : Type 0
PartIsCopied = (r : Request) (pieces : List Piece) (tail : List ℕ)
    → copied (part_rules r) pieces tail ≡ piece_bytes (part_pieces r pieces) ++ tail
