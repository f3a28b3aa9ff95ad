-- How writing a part ends: the project's own.
use Rattle.std.specs.Prelude.{◌≡◌, ℕ, ◌<◌, List, ◌++◌, Option, Result, Ok, Err, IfSome, map, IsTrue}
use Rattle.std.specs.Prelude.{option_map, false}
use Rattle.vcd_core.specs.Devices.{DeviceEnd, HasText, IsRead}
use Rattle.vcd_text.specs.Grammar.{initial_state, AllowsAll, word_texts}
use Rattle.vcd_text.specs.Items.{spellings}
use Rattle.vcd_text.specs.Words.{words_of}
use Rattle.vcd_copy.specs.Pieces.{Piece, IsCut, state_of_pieces}
use Rattle.vcd_copy.specs.CopyEnds.{CopyFails, TookFirst}
use Rattle.vcd_text.specs.declared.reading.TheConstants.{LONG_FILE_LIMIT, VARIABLE_LIMIT}
use Rattle.vcd_text.specs.declared.reading.choice.TickRange.{TickRange}
use Rattle.vcd_part.specs.declared.part.PartError.{PartError}
use Rattle.vcd_part.specs.declared.part.PartError.TheVariants as errors
use Rattle.vcd_part.specs.declared.written_part.WrittenPart.{WrittenPart}
use Rattle.vcd_part.specs.declared.request.Refusal.{Refusal}
use Rattle.vcd_part.specs.declared.request.Request.{Request}
use Rattle.vcd_part.specs.Requests.{decide, unmet}
use Rattle.vcd_part.specs.PartPieces.{part_pieces}
use Rattle.vcd_copy.specs.Pieces.{piece_bytes}
use Rattle.vcd_part.specs.PartLaws.{HasPart}
use Rattle.vcd_part.specs.WrittenPart.{written_part}

-- the file is accepted, this is the text of its part, and this is what there is to say of it
pub record IsPart (r : Request) (file text : List ℕ) (written : WrittenPart) : Type 0 where
  pub pieces : List Piece
  pub tail : List ℕ
  pub ticks : TickRange
  pub part : HasPart r VARIABLE_LIMIT file pieces tail ticks
  pub is : text ≡ piece_bytes (part_pieces r pieces) ++ tail
  pub said : written ≡ written_part r pieces (state_of_pieces VARIABLE_LIMIT pieces) ticks

-- an accepted file has these pieces, and the text is that of the part's pieces, whether the request
-- is refused or not
pub record IsPartText (r : Request) (file text : List ℕ) : Type 0 where
  pub pieces : List Piece
  pub tail : List ℕ
  pub cut : IsCut file pieces tail
  pub allowed : AllowsAll (initial_state VARIABLE_LIMIT) (map (λ p. p.item) pieces)
  pub is : text ≡ piece_bytes (part_pieces r pieces) ++ tail

-- the file begins with declarations that are accepted, and the request is refused for them, with
-- the first pattern that no name of theirs meets
pub record IsRefused (r : Request) (file : List ℕ) (refusal : Refusal)
    (pattern : Option (List ℕ)) : Type 0 where
  pub pieces : List Piece
  pub later : List (List ℕ)
  pub words : word_texts (words_of file) ≡ spellings (map (λ p. p.item) pieces) ++ later
  pub allowed : AllowsAll (initial_state VARIABLE_LIMIT) (map (λ p. p.item) pieces)
  pub in_body : IsTrue (state_of_pieces VARIABLE_LIMIT pieces).in_body
  pub decided : decide r (state_of_pieces VARIABLE_LIMIT pieces).timescale
      (state_of_pieces VARIABLE_LIMIT pieces).declared ≡ Err refusal
  pub pattern_is : pattern ≡ unmet r (state_of_pieces VARIABLE_LIMIT pieces).declared

-- the file is accepted, and the window begins past its end
pub record IsPastEnd (r : Request) (file : List ℕ) (end : ℕ) : Type 0 where
  pub pieces : List Piece
  pub tail : List ℕ
  pub ticks : TickRange
  pub cut : IsCut file pieces tail
  pub allowed : AllowsAll (initial_state VARIABLE_LIMIT) (map (λ p. p.item) pieces)
  pub in_body : IsTrue (state_of_pieces VARIABLE_LIMIT pieces).in_body
  pub decided : decide r (state_of_pieces VARIABLE_LIMIT pieces).timescale
      (state_of_pieces VARIABLE_LIMIT pieces).declared ≡ Ok ticks
  pub end_is : end ≡ (state_of_pieces VARIABLE_LIMIT pieces).tick
  pub past : end < ticks.first

-- a request, and the ends of the source of the capture and of the writer of the part
module _ (r : Request) (capture out : DeviceEnd) where
  -- how writing a part ends, by its result. A writer that fails took the first bytes of the part
  unfoldable pub PartEnds : Result WrittenPart PartError → Type 0
  PartEnds (Ok written) = IsRead LONG_FILE_LIMIT capture × (out.has_failed ≡ false)
      × IfSome capture.before (λ file. (text : List ℕ) × IsPart r file text written
      × HasText out text)
  PartEnds (Err (errors.Copy e)) = CopyFails VARIABLE_LIMIT LONG_FILE_LIMIT capture.before
      capture.after capture.has_failed out.before out.after out.has_failed e
      × TookFirst VARIABLE_LIMIT (IsPartText r) capture.before out.before out.after out.has_failed e
  PartEnds (Err (errors.Refused refusal pattern)) = (capture.has_failed ≡ false)
      × IfSome capture.before (λ file.
      IsRefused r file refusal (option_map (λ p. p.now) pattern))
  PartEnds (Err (errors.PastEnd end)) = IsRead LONG_FILE_LIMIT capture
      × IfSome capture.before (λ file. IsPastEnd r file end)
