-- The law of the part of a file: the project's own.
use Rattle.std.specs.Prelude.{◌≡◌, ℕ, ◌≤◌, ◌&&◌, List, [], ◌∷◌, ◌++◌, count_by, Ok, map, IsTrue}
use Rattle.vcd_core.specs.Contents.{Contents}
use Rattle.vcd_core.specs.Names.{full_name}
use Rattle.vcd_core.specs.declared.capture.HeaderKind.TheVariants.{Comment}
use Rattle.vcd_text.specs.Grammar.{initial_state, AllowsAll, is_skipped}
use Rattle.vcd_text.specs.Meaning.{FileMeans, meaning}
use Rattle.vcd_text.specs.Parts.{part_of}
use Rattle.vcd_copy.specs.Pieces.{Piece, IsCut, state_of_pieces}
use Rattle.vcd_text.specs.declared.reading.choice.TickRange.{TickRange}
use Rattle.vcd_part.specs.declared.request.Request.{Request}
use Rattle.vcd_part.specs.Requests.{keeps_name, keeps, decide}
use Rattle.vcd_part.specs.PartPieces.{part_pieces, comment_words}
use Rattle.vcd_copy.specs.Pieces.{piece_bytes}
use Rattle.vcd_part.specs.PartPieces.{kept_count, all_count}

-- an accepted file of these pieces, of which the request asks for this window, whose first tick it
-- has
pub record HasPart (r : Request) (limit : ℕ) (file : List ℕ) (pieces : List Piece) (tail : List ℕ)
    (w : TickRange) : Type 0 where
  pub cut : IsCut file pieces tail
  pub allowed : AllowsAll (initial_state limit) (map (λ p. p.item) pieces)
  pub in_body : IsTrue (state_of_pieces limit pieces).in_body
  pub decided : decide r (state_of_pieces limit pieces).timescale
      (state_of_pieces limit pieces).declared ≡ Ok w
  pub within : w.first ≤ (state_of_pieces limit pieces).tick

-- the part of a capture, with these words as a comment
abbrev pub part_with_comment : Request → TickRange → (words : List (List ℕ)) → Contents → Contents
part_with_comment r w words whole =
    let part : Contents = part_of (λ s. keeps_name r (full_name s)) w whole in
    record part { header = part.header ++ record { kind = Comment; words = words } ∷ [] }

-- the file of the part means the part of the capture, with a comment that says which; of the
-- skipped variables it has those that are kept
abbrev pub PartMeansPart : Type 0
PartMeansPart = (r : Request) (limit : ℕ) (file : List ℕ) (pieces : List Piece) (tail : List ℕ)
    (w : TickRange) → HasPart r limit file pieces tail w
    → FileMeans limit (piece_bytes (part_pieces r pieces) ++ tail)
    (part_with_comment r w (comment_words w (kept_count r (state_of_pieces limit pieces).declared)
    (all_count (state_of_pieces limit pieces).declared))
    (meaning (state_of_pieces limit pieces)))
    (count_by (λ d. keeps r d && is_skipped d) (state_of_pieces limit pieces).declared)
