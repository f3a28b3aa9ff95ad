-- The copy of a file: rules say what is in the place of variables, stamps and changes, and all else
-- stands byte for byte, where rules may put something before it. The project's own.
use Rattle.std.specs.Prelude.{◌≡◌, ℕ, Bool, true, false, if◌then◌else◌, List, [], ◌∷◌, ◌++◌, map}
use Rattle.std.specs.Prelude.{length, IsFalse}
use Rattle.std.specs.List.{flat_map}
use Rattle.std.specs.Prelude.{Option, Some, None, IsTrue}
use Rattle.vcd_core.specs.Decimal.{number_of}
use Rattle.vcd_core.specs.declared.capture.HeaderKind.TheVariants.{Date, Version, Comment}
use Rattle.vcd_core.specs.declared.capture.ScopeName.{ScopeName}
use Rattle.vcd_text.specs.Words.{words_of}
use Rattle.vcd_text.specs.Items.{Item, entry, variable, end_definitions, stamp, scalar, vector}
use Rattle.vcd_text.specs.Items.{real_or_string, other, spelling, spellings}
use Rattle.vcd_text.specs.Grammar.{ParseState, initial_state, AllowsAll, word_texts}
use Rattle.vcd_copy.specs.Pieces.{Piece, IsCut, state_of_pieces}
use Rattle.vcd_copy.specs.declared.copying.amender.AmendableItem.{AmendableItem}
use Rattle.vcd_copy.specs.declared.copying.amender.AmendableItem.TheVariants as shown

-- whether rules may amend an item; any other stands
abbrev pub may_be_amended : Item → Bool
may_be_amended (variable words) = true
may_be_amended end_definitions = true
may_be_amended (stamp digits) = true
may_be_amended (scalar digit code) = true
may_be_amended (vector first digits code) = true
may_be_amended (real_or_string first text code) = true
may_be_amended item = false

-- whether an item is a comment of the declarations, or any other command: its words are free, and
-- may say anything of the capture
abbrev pub is_comment_or_other : Item → Bool
is_comment_or_other (entry Date words) = false
is_comment_or_other (entry Version words) = false
is_comment_or_other (entry Comment words) = true
is_comment_or_other (other word words) = true
is_comment_or_other item = false

-- what is written in the place of a piece after others that may be amended, before any other piece,
-- and in the place of the white space after the last one
pub record CopyRules : Type 0 where
  pub in_place : (before : List Piece) → Piece → List ℕ
  pub before_others : (before : List Piece) → List ℕ
  pub at_end : (pieces : List Piece) → (tail : List ℕ) → List ℕ

-- the bytes in the place of a piece after others
abbrev pub copied_piece : CopyRules → (before : List Piece) → Piece → List ℕ
copied_piece r before p = if may_be_amended p.item then r.in_place before p
    else r.before_others before ++ (p.space ++ p.body)

-- the bytes in the place of pieces after others
unfoldable pub copied_pieces : CopyRules → (before : List Piece) → List Piece → List ℕ
copied_pieces r before [] = []
copied_pieces r before (p ∷ ps) = copied_piece r before p ++ copied_pieces r (before ++ p ∷ []) ps

-- the copy of a file of these pieces
abbrev pub copied : CopyRules → List Piece → (tail : List ℕ) → List ℕ
copied r pieces tail = copied_pieces r [] pieces ++ r.at_end pieces tail

-- the items of pieces
abbrev pub piece_items : List Piece → List Item
piece_items pieces = map (λ p. p.item) pieces

-- the file is accepted, and this text is its copy
pub record IsCopy (limit : ℕ) (r : CopyRules) (file text : List ℕ) : Type 0 where
  pub pieces : List Piece
  pub tail : List ℕ
  pub cut : IsCut file pieces tail
  pub allowed : AllowsAll (initial_state limit) (piece_items pieces)
  pub in_body : IsTrue (state_of_pieces limit pieces).in_body
  pub is : text ≡ copied r pieces tail

-- ---- what an amender is shown

-- the code of a change to digits
abbrev pub value_code : Item → Option (List ℕ)
value_code (scalar digit code) = Some code
value_code (vector first digits code) = Some code
value_code item = None

-- the code of a change to a real or a string
abbrev pub real_or_string_code : Item → Option (List ℕ)
real_or_string_code (real_or_string first text code) = Some code
real_or_string_code item = None

-- an item after a state is shown as this, with this code if it is a change
abbrev pub Shows : ParseState → AmendableItem → (code : List ℕ) → Item → Type 0
Shows s shown.Variable code i = (words : List (List ℕ)) × (i ≡ variable words)
Shows s (shown.EndDefinitions open_scopes timescale) code i = (i ≡ end_definitions)
    × (open_scopes ≡ length s.scopes) × (timescale ≡ s.timescale)
Shows s (shown.Stamp tick) code i = (digits : List ℕ) × (i ≡ stamp digits)
    × (tick ≡ number_of digits)
Shows s shown.Value code i = value_code i ≡ Some code
Shows s shown.RealOrString code i = real_or_string_code i ≡ Some code

-- after these pieces comes this one, with these bytes
pub record IsNext (limit : ℕ) (before : List Piece) (p : Piece) (space body : List ℕ) : Type 0 where
  pub allowed : AllowsAll (initial_state limit) (piece_items (before ++ p ∷ []))
  pub space_is : p.space ≡ space
  pub body_is : p.body ≡ body
  pub spelled : word_texts (words_of p.body) ≡ spelling p.item

-- the same, and its item is shown so
pub record IsShownNext (limit : ℕ) (before : List Piece) (p : Piece) (item : AmendableItem)
    (code space body : List ℕ)
    : Type 0 where
  pub next : IsNext limit before p space body
  pub shows : Shows (state_of_pieces limit before) item code p.item

-- the same, while these scopes are open, outermost first
pub record IsTakenNext (limit : ℕ) (before : List Piece) (p : Piece) (item : AmendableItem)
    (code : List ℕ) (scopes : List ScopeName) (space body : List ℕ)
    : Type 0 where
  pub shown : IsShownNext limit before p item code space body
  pub scopes_are : scopes ≡ (state_of_pieces limit before).scopes

-- ---- what an amender was told

-- the file begins with these pieces, of which an amender was told; if it is not done, they are all
-- of it
pub record IsTold (limit : ℕ) (done : Bool) (told : List Piece → Type 0) (file : List ℕ) : Type 0
  where
    pub pieces : List Piece
    pub rest : List ℕ
    pub later : List (List ℕ)
    pub cut : IsCut (flat_map (λ p. p.space ++ p.body) pieces) pieces []
    pub whole : file ≡ flat_map (λ p. p.space ++ p.body) pieces ++ rest
    pub words : word_texts (words_of file) ≡ spellings (piece_items pieces) ++ later
    pub allowed : AllowsAll (initial_state limit) (piece_items pieces)
    pub is_told : told pieces
    pub all : IsFalse done → (later ≡ []) × IsTrue (state_of_pieces limit pieces).in_body
