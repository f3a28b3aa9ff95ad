-- A request while a file is copied.
use Rattle.std.specs.Prelude.{◌≡◌, ℕ, Bool, true, false, if◌then◌else◌, List, []}
use Rattle.std.specs.Prelude.{Option, Some, None}
use Rattle.std.specs.Prelude.{Result, Ok, Err, IfSome, ◌≤◌, ◌<◌, ◌++◌, option_map, All, length}
use Rattle.vcd_part.specs.declared.part.PartError.{PartError}
use Rattle.vcd_part.specs.declared.part.PartError.TheVariants as errors
use Rattle.vcd_part.specs.declared.written_part.WrittenPart.{WrittenPart}
use Rattle.vcd_text.specs.Grammar.{ParseState}
use Rattle.vcd_copy.specs.Pieces.{Piece, state_of_pieces}
use Rattle.vcd_copy.specs.Copied.{CopyRules}
use Rattle.vcd_text.specs.declared.reading.choice.TickRange.{TickRange}
use Rattle.vcd_part.specs.declared.amender.PartAmender.{PartAmender}
use Rattle.vcd_part.specs.declared.request.Request.{Request}
use Rattle.vcd_part.specs.declared.request.Refusal.{Refusal}
use Rattle.vcd_part.specs.Requests.{decide, unmet}
use Rattle.vcd_part.specs.PartPieces.{is_up_to_first, pieces_at_end}
use Rattle.vcd_part.specs.WrittenPart.{comment_count, written_part}
use Rattle.vcd_copy.specs.Pieces.{piece_bytes}
use Rattle.vcd_part.specs.inside.Choice.{HasNoted}
use Rattle.vcd_part.specs.inside.CodeUses.{AreUses, HoldLast}
use Rattle.vcd_part.specs.inside.PartCopy.{part_rules, waiting_stamp, last_settled}

-- the window of an answer
abbrev pub window_of : Result TickRange Refusal → Option TickRange
window_of (Ok w) = Some w
window_of (Err refusal) = None

-- the refusal of an answer
abbrev pub refusal_of : Result TickRange Refusal → Option Refusal
refusal_of (Ok w) = None
refusal_of (Err refusal) = Some refusal

-- whether the last changes are due at the end of a file whose last stamp is this
abbrev pub is_first_due : Option TickRange → ℕ → Bool
is_first_due (Some w) tick = is_up_to_first w tick
is_first_due None tick = false

-- it was told of these pieces, which all have a byte, and after which the file has this state: up
-- to the first tick of the window it holds the last changes among them, and none before the window
-- is known
pub record IsAt (m : PartAmender) (before : List Piece) (s : ParseState) : Type 0 where
  pub noted : HasNoted m.choice m.request s.declared
  pub uses : AreUses m.codes m.request s.declared
  pub window : m.window ≡ (if s.in_body
      then window_of (decide m.request s.timescale s.declared) else None)
  pub refusal : m.refusal ≡ (if s.in_body
      then refusal_of (decide m.request s.timescale s.declared) else None)
  pub tick : m.tick ≡ s.tick
  pub some : All (λ p. 0 < length p.body) before
  pub holds_none : s.in_body ≡ false → HoldLast m.codes m.request s.declared []
  pub holds : (w : TickRange) → m.window ≡ Some w → is_up_to_first w s.tick ≡ true
      → HoldLast m.codes m.request s.declared before

-- it was told of these pieces
abbrev pub Knows : PartAmender → List Piece → Type 0
Knows m before = IsAt m before (state_of_pieces 0 before)

-- the same, it holds the stamp that waits after them, and has counted the comments among them
pub record HasSeen (m : PartAmender) (before : List Piece) : Type 0 where
  pub known : Knows m before
  pub waiting : m.waiting.items ≡ piece_bytes (waiting_stamp m.request before)
  pub comments : m.comments ≡ comment_count before

-- what it writes: at the end what a part has there, if the declarations have ended
abbrev pub rules_of : Request → CopyRules
rules_of r = record (part_rules r) {
  at_end = λ pieces tail. piece_bytes (last_settled (waiting_stamp r pieces)
      (if (state_of_pieces 0 pieces).in_body then pieces_at_end r pieces else [])) ++ tail;
}

-- this is what there is to say of the part with this window
abbrev pub IsSaid : PartAmender → TickRange → WrittenPart → Type 0
IsSaid m w written = (before : List Piece) → HasSeen m before
    → written ≡ written_part m.request before (state_of_pieces 0 before) w

-- what comes of a copy: a refusal, or a window that begins past the end, or else a part
abbrev pub OutcomeOf : PartAmender → Result WrittenPart PartError → Type 0
OutcomeOf m (Ok written) = (m.refusal ≡ None)
    × IfSome m.window (λ w. (w.first ≤ m.tick) × IsSaid m w written)
OutcomeOf m (Err (errors.Copy e)) = ⊥
OutcomeOf m (Err (errors.Refused refusal pattern)) = (m.refusal ≡ Some refusal)
    × ((before : List Piece) → HasSeen m before
    → option_map (λ p. p.now) pattern ≡ unmet m.request (state_of_pieces 0 before).declared)
OutcomeOf m (Err (errors.PastEnd end)) = (m.refusal ≡ None) × (end ≡ m.tick)
    × (w : TickRange) × (m.window ≡ Some w) × (end < w.first)
