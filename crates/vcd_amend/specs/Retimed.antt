-- A file after ticks are cut out: its pieces and its meaning. The project's own.
use Rattle.std.specs.Prelude.{◌≡◌, ℕ, zero, suc, ◌+◌, ◌==◌, ◌&&◌, Bool, false, not}
use Rattle.std.specs.Prelude.{nat_lt, if◌then◌else◌, List, [], ◌∷◌, ◌++◌, map, decimal}
use Rattle.std.specs.Prelude.{Option, Some, None, is_some, bytes_eq, codes}
use Rattle.std.specs.List.{filter, list_any, join_with_byte}
use Rattle.vcd_core.specs.Decimal.{number_of}
use Rattle.vcd_core.specs.Wave.{changes_of}
use Rattle.vcd_core.specs.Contents.{Contents, SignalContents, signal_value}
use Rattle.vcd_text.specs.Items.{Item, stamp, scalar, vector, real_or_string, spelling}
use Rattle.vcd_text.specs.Grammar.{ParseState, state_after_item, is_skipped}
use Rattle.vcd_amend.specs.AmendedItems.{ItemFate, stands, is_left_out, is_exchanged}
use Rattle.vcd_copy.specs.Pieces.{Piece, stamp_line}

-- ---- ticks

-- the new tick of a tick: how many ticks below it are left
unfoldable pub new_tick : (is_cut_out : ℕ → Bool) → ℕ → ℕ
new_tick is_cut_out zero = 0
new_tick is_cut_out (suc t) = new_tick is_cut_out t + (if is_cut_out t then 0 else 1)

-- the old tick of each new tick is left
pub record AreOldTicks (is_cut_out : ℕ → Bool) (old_tick : ℕ → ℕ) : Type 0 where
  pub left : (t : ℕ) → is_cut_out (old_tick t) ≡ false
  pub same : (t : ℕ) → new_tick is_cut_out (old_tick t) ≡ t

-- ---- changes

-- a code, and a form of its changes: to digits, or to a real or a string
pub data ChangeKey : Type 0 where
  digits_key : (code : List ℕ) → ChangeKey
  text_key : (code : List ℕ) → ChangeKey

-- the key of an item, if it is a change
abbrev pub change_key : Item → Option ChangeKey
change_key (scalar digit code) = Some (digits_key code)
change_key (vector first digits code) = Some (digits_key code)
change_key (real_or_string first text code) = Some (text_key code)
change_key item = None

-- the code of a key
abbrev pub code_of_key : ChangeKey → List ℕ
code_of_key (digits_key code) = code
code_of_key (text_key code) = code

-- whether a kept variable has the code
abbrev pub has_kept_variable : ParseState → (code : List ℕ) → Bool
has_kept_variable s code = list_any (λ d. bytes_eq code d.code && not (is_skipped d)) s.declared

-- whether an item is a change that counts together with those of a key: it has the code, and the
-- form if a kept variable has the code
abbrev pub counts_with : (is_kept : List ℕ → Bool) → ChangeKey → Option ChangeKey → Bool
counts_with is_kept (digits_key a) (Some (digits_key b)) = bytes_eq a b
counts_with is_kept (text_key a) (Some (text_key b)) = bytes_eq a b
counts_with is_kept a (Some b) = bytes_eq (code_of_key a) (code_of_key b)
    && not (is_kept (code_of_key a))
counts_with is_kept a None = false

-- whether the changes of a code last: it has a variable that is no event
abbrev pub lasts : ParseState → (code : List ℕ) → Bool
lasts s code =
    list_any (λ d. bytes_eq code d.code && not (bytes_eq d.kind (codes "event"))) s.declared

-- ---- held changes

-- the held changes and one more change, in the place of those that count together with it; it is
-- not held itself if the last stamp is left, or the change does not last
abbrev pub held_with : (is_cut_out : ℕ → Bool) → ParseState → List Piece → Piece → Option ChangeKey
    → List Piece
held_with is_cut_out s held p None = held
held_with is_cut_out s held p (Some key) =
    filter (λ h. not (counts_with (has_kept_variable s) key (change_key h.item))) held
    ++ (if is_cut_out s.tick && lasts s (code_of_key key) then p ∷ [] else [])

-- whether an item is a stamp past the first tick, from the last stamp on, that is left
abbrev pub is_past : (is_cut_out : ℕ → Bool) → ParseState → Item → Bool
is_past is_cut_out s (stamp digits) =
    nat_lt (new_tick is_cut_out s.tick) (new_tick is_cut_out (number_of digits))
is_past is_cut_out s item = false

-- the held changes with their new tick, of which there is no stamp if the last one is left out
abbrev pub released_pieces : (is_cut_out : ℕ → Bool) → ParseState → (held : List Piece)
    → List Piece
released_pieces is_cut_out s [] = []
released_pieces is_cut_out s (p ∷ ps) =
    (if is_cut_out s.tick then stamp_line (new_tick is_cut_out s.tick) ∷ [] else []) ++ p ∷ ps

-- ---- pieces

-- what becomes of a stamp
abbrev pub retimed_stamp : (is_cut_out : ℕ → Bool) → ℕ → ItemFate
retimed_stamp is_cut_out t = if is_cut_out t then is_left_out
    else (if new_tick is_cut_out t == t then stands
    else is_exchanged (stamp (decimal (new_tick is_cut_out t))))

-- what becomes of an item in its place
abbrev pub retimed_fate : (is_cut_out : ℕ → Bool) → ParseState → Item → ItemFate
retimed_fate is_cut_out s (stamp digits) = retimed_stamp is_cut_out (number_of digits)
retimed_fate is_cut_out s item =
    if is_some (change_key item) && is_cut_out s.tick then is_left_out else stands

-- the pieces in the place of a piece with this fate; another item has one space between its
-- words
abbrev pub pieces_in_place : ItemFate → Piece → List Piece
pieces_in_place stands p = p ∷ []
pieces_in_place is_left_out p = []
pieces_in_place (is_exchanged j) p =
    record { item = j; space = p.space; body = join_with_byte 32 (spelling j) } ∷ []

-- the pieces in place of these after this state, while these changes are held
unfoldable pub retimed_pieces : (is_cut_out : ℕ → Bool) → ParseState → (held : List Piece)
    → List Piece → List Piece
retimed_pieces is_cut_out s held [] = released_pieces is_cut_out s held
retimed_pieces is_cut_out s held (p ∷ ps) =
    (if is_past is_cut_out s p.item then released_pieces is_cut_out s held else [])
    ++ pieces_in_place (retimed_fate is_cut_out s p.item) p
    ++ retimed_pieces is_cut_out (state_after_item s p.item)
    (if is_past is_cut_out s p.item then [] else held_with is_cut_out s held p (change_key p.item))
    ps

-- ---- the meaning

-- a signal with the values of the old ticks at the new ones
abbrev pub retimed_signal : (old_tick : ℕ → ℕ) → (end : ℕ) → SignalContents → SignalContents
retimed_signal old_tick end s =
    record s { changes = changes_of s.width end (λ t. signal_value s (old_tick t)) }

-- the capture at the new ticks
abbrev pub retimed_contents : (is_cut_out : ℕ → Bool) → (old_tick : ℕ → ℕ) → Contents → Contents
retimed_contents is_cut_out old_tick c =
    record c {
      end = new_tick is_cut_out c.end;
      signals = map (retimed_signal old_tick (new_tick is_cut_out c.end)) c.signals;
    }
