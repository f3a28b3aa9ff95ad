-- Changes that are held while ticks are cut out: those of which no later one takes the place.
use Rattle.std.specs.Prelude.{◌≡◌, ℕ, Bool, true, false, not, ◌&&◌, ◌||◌, if◌then◌else◌, List, []}
use Rattle.std.specs.Prelude.{◌∷◌, ◌++◌, bytes_eq, Some, decimal, ◌==◌}
use Rattle.std.specs.List.{list_any}
use Rattle.vcd_core.specs.Decimal.{number_of}
use Rattle.vcd_text.specs.Items.{stamp}
use Rattle.vcd_copy.specs.Pieces.{Piece}
use Rattle.vcd_text.specs.inside.reading.CodeTargets.{code_target}
use Rattle.vcd_amend.specs.Retimed.{ChangeKey, digits_key, text_key, change_key}
use Rattle.vcd_copy.specs.Pieces.{stamp_line}
use Rattle.vcd_amend.specs.declared.amending.held_changes.ChangeBytes.{ChangeBytes}
use Rattle.vcd_amend.specs.declared.amending.held_changes.HeldChange.{HeldChange}
use Rattle.vcd_amend.specs.declared.amending.held_changes.SeenCodes.{SeenCodes}

-- whether a change takes the place of those of its code to digits that come before it, and of those
-- to a real or a string
abbrev pub replaces_digits : HeldChange → Bool
replaces_digits h = not h.is_text || not h.is_kept

abbrev pub replaces_text : HeldChange → Bool
replaces_text h = h.is_text || not h.is_kept

abbrev pub replaces_form : (is_text : Bool) → HeldChange → Bool
replaces_form true h = replaces_text h
replaces_form false h = replaces_digits h

-- whether a later change takes the place of a change
abbrev pub is_replaced_by : HeldChange → (later : HeldChange) → Bool
is_replaced_by h later = replaces_form h.is_text later && bytes_eq h.code later.code

-- whether one of later changes does
abbrev pub is_replaced : HeldChange → (later : List HeldChange) → Bool
is_replaced h later = list_any (is_replaced_by h) later

-- a change that comes before others, if it is held after them
abbrev pub held_before : HeldChange → (later : List HeldChange) → List HeldChange
held_before h later = if is_replaced h later then [] else (if h.is_held then h ∷ [] else [])

-- the changes that are held after all of these
unfoldable pub last_held : List HeldChange → List HeldChange
last_held [] = []
last_held (h ∷ hs) = held_before h hs ++ last_held hs

-- the codes of which these changes take the place of others
pub record AreCodesOf (seen : SeenCodes) (hs : List HeldChange) : Type 0 where
  pub digits : (code : List ℕ) → code_target seen.digits code
      ≡ list_any (λ h. replaces_digits h && bytes_eq code h.code) hs
  pub text : (code : List ℕ) → code_target seen.text code
      ≡ list_any (λ h. replaces_text h && bytes_eq code h.code) hs

-- ---- as pieces

-- the key of a change of this kind
abbrev pub key_of : (is_text : Bool) → (code : List ℕ) → ChangeKey
key_of true code = text_key code
key_of false code = digits_key code

-- a piece is a change of this kind and code, with these bytes
pub record IsChangePiece (p : Piece) (is_text : Bool) (code space body : List ℕ) : Type 0 where
  pub key : change_key p.item ≡ Some (key_of is_text code)
  pub space_is : p.space ≡ space
  pub body_is : p.body ≡ body

-- a piece is this change
abbrev pub IsGivenChange : Piece → ChangeBytes → Type 0
IsGivenChange p c = IsChangePiece p c.is_text c.code.now c.space.now c.body.now

-- these pieces are these changes, one after another
abbrev pub ArePieces : List HeldChange → List Piece → Type 0
ArePieces [] [] = Unit {0}
ArePieces (h ∷ hs) (p ∷ ps) = IsChangePiece p h.is_text h.code h.space h.body × ArePieces hs ps
ArePieces hs ps = ⊥

-- the held pieces with their stamp, if the last one is left out
abbrev pub released : (is_cut : Bool) → (tick : ℕ) → (held : List Piece) → List Piece
released is_cut tick [] = []
released is_cut tick (p ∷ ps) = (if is_cut then stamp_line tick ∷ [] else []) ++ p ∷ ps

-- a piece is what becomes of the stamp of a tick with these bytes, if its new tick is this
abbrev pub retimed_stamp_piece : (retimed tick : ℕ) → Piece → Piece
retimed_stamp_piece retimed tick p = if retimed == tick then p
    else record { item = stamp (decimal retimed); space = p.space; body = 35 ∷ decimal retimed }

pub record IsRetimedStamp (q : Piece) (retimed tick : ℕ) (space body : List ℕ) : Type 0 where
  pub p : Piece
  pub digits : List ℕ
  pub is : p.item ≡ stamp digits
  pub number : number_of digits ≡ tick
  pub space_is : p.space ≡ space
  pub body_is : p.body ≡ body
  pub new : q ≡ retimed_stamp_piece retimed tick p
