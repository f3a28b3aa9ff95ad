-- A part of a capture file: what it has in the place of each piece. The project's own.
use Rattle.std.specs.Prelude.{ℕ, ◌-◌, ◌==◌, ◌&&◌, Bool, true, false, not, nat_lt, nat_le}
use Rattle.std.specs.Prelude.{if◌then◌else◌, List, [], ◌∷◌, ◌++◌, length, map, max, decimal}
use Rattle.std.specs.Prelude.{Option, Some, None, Result, Ok, Err, bytes_eq, codes, filter, min}
use Rattle.std.specs.Prelude.{◌^◌}
use Rattle.std.specs.Prelude.{option_to_list}
use Rattle.std.specs.Option.{option_or}
use Rattle.std.specs.List.{list_any, flat_map, join_with_byte}
use Rattle.vcd_core.specs.Decimal.{number_of}
use Rattle.vcd_core.specs.declared.capture.HeaderKind.TheVariants.{Comment}
use Rattle.vcd_core.specs.declared.capture.TheConstants.{END_LIMIT}
use Rattle.vcd_text.specs.Items.{Item, entry, variable, stamp, scalar, vector}
use Rattle.vcd_text.specs.Items.{real_or_string, spelling}
use Rattle.vcd_text.specs.Grammar.{ParseState, VariableDeclaration, declaration_of, is_skipped}
use Rattle.vcd_copy.specs.Pieces.{Piece, stamp_line, state_of_pieces}
use Rattle.vcd_copy.specs.Copied.{may_be_amended}
use Rattle.vcd_text.specs.declared.reading.choice.TickRange.{TickRange}
use Rattle.vcd_part.specs.declared.request.Refusal.{Refusal}
use Rattle.vcd_part.specs.declared.request.Request.{Request}
use Rattle.vcd_part.specs.Requests.{keeps, decide}

-- ---- codes

-- whether a variable that is kept has the code
abbrev pub is_used : Request → List VariableDeclaration → (code : List ℕ) → Bool
is_used r declared code = list_any (λ d. keeps r d && bytes_eq code d.code) declared

-- whether a variable that is not skipped has the code, so that changes to a real number or a string
-- mean nothing
abbrev pub has_signal : List VariableDeclaration → (code : List ℕ) → Bool
has_signal declared code = list_any (λ d. not (is_skipped d) && bytes_eq code d.code) declared

-- whether an item is a change that gives variables of this code a value
abbrev pub is_change_of : List VariableDeclaration → (code : List ℕ) → Item → Bool
is_change_of declared code (scalar digit other) = bytes_eq code other
is_change_of declared code (vector first digits other) = bytes_eq code other
is_change_of declared code (real_or_string first text other) =
    bytes_eq code other && not (has_signal declared code)
is_change_of declared code item = false

-- the words without those that stand before, or among these
unfoldable pub each_once : (before : List (List ℕ)) → List (List ℕ) → List (List ℕ)
each_once before [] = []
each_once before (w ∷ ws) = if list_any (bytes_eq w) before then each_once before ws
    else w ∷ each_once (before ++ w ∷ []) ws

-- the codes of the variables that are kept and whose values last, as those of events do not
abbrev pub lasting_codes : Request → List VariableDeclaration → List (List ℕ)
lasting_codes r declared = each_once []
    (map (λ d. d.code) (filter (λ d. keeps r d && not (bytes_eq d.kind (codes "event"))) declared))

-- ---- pieces that the part has of its own

-- the last of these pieces whose item passes a test
unfoldable pub last_such : (Item → Bool) → List Piece → Option Piece
last_such test [] = None
last_such test (p ∷ ps) = option_or (last_such test ps) (if test p.item then Some p else None)

-- a piece on a line of its own
abbrev pub on_own_line : Piece → Piece
on_own_line p = record { item = p.item; space = 10 ∷ []; body = p.body }

-- after pieces of the file: the stamp of tick 0, and of each lasting code the last change
abbrev pub first_pieces : Request → List VariableDeclaration → (before : List Piece) → List Piece
first_pieces r declared before = stamp_line 0 ∷ flat_map
    (λ code. map on_own_line (option_to_list (last_such (is_change_of declared code) before)))
    (lasting_codes r declared)

-- the last tick, in the words of the comment
abbrev pub last_word : ℕ → List ℕ
last_word last = if nat_lt END_LIMIT last then codes "end" else decimal last

-- a count as far as a `u64` goes
abbrev pub bounded_count : ℕ → ℕ
bounded_count n = min n (2 ^ 64 - 1)

-- the words of the comment: the ticks of the window, and that so many variables of all are kept
abbrev pub comment_words : TickRange → (kept all : ℕ) → List (List ℕ)
comment_words w kept all = codes "vcdedit-amend:" ∷ codes "ticks" ∷ decimal w.first ∷ codes "to"
    ∷ last_word w.last ∷ codes "variables" ∷ decimal kept ∷ codes "of" ∷ decimal all ∷ []

-- the comment, after this white space
abbrev pub comment_piece : TickRange → (kept all : ℕ) → (space : List ℕ) → Piece
comment_piece w kept all space =
    let item = entry Comment (comment_words w kept all) in
    record { item = item; space = space; body = join_with_byte 32 (spelling item) }

-- how many of the variables are kept
abbrev pub kept_count : Request → List VariableDeclaration → ℕ
kept_count r declared = bounded_count (length (filter (keeps r) declared))

-- how many there are
abbrev pub all_count : List VariableDeclaration → ℕ
all_count declared = bounded_count (length declared)

-- ---- the window

-- whether a tick is the first of a window that begins after tick 0, or before it: the last change
-- up to there is the value at tick 0 of the part
abbrev pub is_up_to_first : TickRange → ℕ → Bool
is_up_to_first w t = nat_lt 0 w.first && nat_le t w.first

-- whether a tick is within a window, and past the first tick of one that begins after tick 0
abbrev pub is_within : TickRange → ℕ → Bool
is_within w t = not (is_up_to_first w t) && nat_le t w.last

-- a stamp of a later tick at its tick of the part
abbrev pub stamp_in_part : TickRange → Piece → (t : ℕ) → Piece
stamp_in_part w p t = if w.first == 0 then p
    else record {
      item = stamp (decimal (t - w.first));
      space = p.space;
      body = 35 ∷ decimal (t - w.first);
    }

-- the stamp of the part's last tick, if the last stamp is one before it
abbrev pub last_stamp : TickRange → (tick : ℕ) → List Piece
last_stamp w tick = if nat_lt (max tick w.first) w.last then stamp_line (w.last - w.first) ∷ []
    else []

-- ---- one piece after others

-- the pieces in the place of `$enddefinitions $end`: the comment, and then it on a line of its own
abbrev pub ended_in_part : Request → List VariableDeclaration → Piece → Result TickRange Refusal
    → List Piece
ended_in_part r declared p (Ok w) =
    comment_piece w (kept_count r declared) (all_count declared) p.space ∷ on_own_line p ∷ []
ended_in_part r declared p (Err refusal) = []

-- the pieces in the place of a declaration
abbrev pub declaration_in_part : Request → ParseState → Piece → Item → List Piece
declaration_in_part r s p (variable words) =
    if list_any (keeps r) (option_to_list (declaration_of s words)) then p ∷ [] else []
declaration_in_part r s p item = ended_in_part r s.declared p (decide r s.timescale s.declared)

-- the pieces in the place of a stamp: those of tick 0 before the first one within the window, and
-- the last one before the first that is past it
abbrev pub stamp_pieces : Request → TickRange → ParseState → (before : List Piece) → Piece → (t : ℕ)
    → List Piece
stamp_pieces r w s before p t =
    (if is_up_to_first w s.tick && not (is_up_to_first w t) then first_pieces r s.declared before
    else [])
    ++ (if is_within w t then stamp_in_part w p t ∷ []
    else (if nat_le s.tick w.last && nat_lt w.last t then last_stamp w s.tick else []))

-- the pieces in the place of a change of this code
abbrev pub change_in_part : Request → TickRange → ParseState → Piece → (code : List ℕ) → List Piece
change_in_part r w s p code = if is_within w s.tick && is_used r s.declared code then p ∷ [] else []

-- the pieces in the place of a stamp or a change; none if the request is refused
abbrev pub body_in_part : Request → ParseState → (before : List Piece) → Piece → Item
    → Result TickRange Refusal → List Piece
body_in_part r s before p (stamp digits) (Ok w) = stamp_pieces r w s before p (number_of digits)
body_in_part r s before p (scalar digit code) (Ok w) = change_in_part r w s p code
body_in_part r s before p (vector first digits code) (Ok w) = change_in_part r w s p code
body_in_part r s before p (real_or_string first text code) (Ok w) = change_in_part r w s p code
body_in_part r s before p item answer = []

-- the pieces in the place of one after others, where the file has this state: dump words, comments
-- and what else is neither a variable, a stamp nor a change stand
abbrev pub pieces_after_state : Request → ParseState → (before : List Piece) → Piece → List Piece
pieces_after_state r s before p =
    if not (may_be_amended p.item) then p ∷ []
    else (if s.in_body then body_in_part r s before p p.item (decide r s.timescale s.declared)
    else declaration_in_part r s p p.item)

-- the same, without the state
abbrev pub pieces_of_step : Request → (before : List Piece) → Piece → List Piece
pieces_of_step r before p = pieces_after_state r (state_of_pieces 0 before) before p

-- the pieces at the end of a file with this state: those of tick 0, if no stamp is past the first
-- tick of the window
abbrev pub ended_pieces : Request → ParseState → (pieces : List Piece) → Result TickRange Refusal
    → List Piece
ended_pieces r s pieces (Ok w) =
    if is_up_to_first w s.tick then first_pieces r s.declared pieces else []
ended_pieces r s pieces (Err refusal) = []

-- the same, without the state
abbrev pub pieces_at_end : Request → (pieces : List Piece) → List Piece
pieces_at_end r pieces =
    let s = state_of_pieces 0 pieces in
    ended_pieces r s pieces (decide r s.timescale s.declared)

-- ---- all pieces, one after another

-- the pieces of the part with all stamps within the window, from these on, after others
unfoldable pub part_after : Request → (before : List Piece) → List Piece → List Piece
part_after r before [] = pieces_at_end r before
part_after r before (p ∷ ps) = pieces_of_step r before p ++ part_after r (before ++ p ∷ []) ps

-- ---- stamps at whose tick the part has nothing

-- whether an item is a stamp
abbrev pub is_stamp : Item → Bool
is_stamp (stamp digits) = true
is_stamp item = false

-- whether an item is a stamp of a tick above 0
abbrev pub is_later_stamp : Item → Bool
is_later_stamp (stamp digits) = nat_lt 0 (number_of digits)
is_later_stamp item = false

-- whether the first of these pieces is a stamp
abbrev pub begins_with_stamp : List Piece → Bool
begins_with_stamp [] = false
begins_with_stamp (p ∷ ps) = is_stamp p.item

-- the pieces without each stamp of a tick above 0 that another stamp follows at once: nothing of
-- the part is at its tick
unfoldable pub without_empty_stamps : List Piece → List Piece
without_empty_stamps [] = []
without_empty_stamps (p ∷ ps) = if is_later_stamp p.item && begins_with_stamp ps
    then without_empty_stamps ps else p ∷ without_empty_stamps ps

-- ---- the part

-- the pieces of the part of a file of these pieces
abbrev pub part_pieces : Request → List Piece → List Piece
part_pieces r pieces = without_empty_stamps (part_after r [] pieces)
