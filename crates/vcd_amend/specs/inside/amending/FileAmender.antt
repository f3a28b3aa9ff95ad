-- An amendment while a file is copied.
use Rattle.std.specs.Prelude.{◌≡◌, ℕ, Bool, true, false, ◌<◌, List, [], ◌∷◌, ◌++◌, length, drop}
use Rattle.std.specs.Prelude.{map, All}
use Rattle.vcd_core.specs.Decimal.{number_of}
use Rattle.vcd_text.specs.Items.{variable}
use Rattle.vcd_text.specs.Grammar.{ParseState, VariableDeclaration, initial_state, kept_variables}
use Rattle.vcd_copy.specs.Pieces.{Piece, state_of_pieces}
use Rattle.vcd_text.specs.inside.reading.CodeTargets.{code_target}
use Rattle.vcd_amend.specs.Amendment as spec
use Rattle.vcd_amend.specs.Amendment.{is_used}
use Rattle.vcd_amend.specs.AmendmentContents.{amendment_contents, fate_contents}
use Rattle.vcd_amend.specs.declared.amendment.Fate.{Fate}
use Rattle.vcd_amend.specs.AmendedMeaning.{AreApart}
use Rattle.vcd_amend.specs.AmendedCopy.{none_yet_after}
use Rattle.vcd_amend.specs.inside.amending.CodeUses.{amended_index}
use Rattle.vcd_amend.specs.inside.amending.DueChanges.{AreDueFrom, due_transition}
use Rattle.vcd_amend.specs.inside.amending.CodeProgress.{AllProgressMatches}
use Rattle.vcd_amend.specs.declared.amending.file_amender.FileAmender.{FileAmender}

-- the file has this state, and nothing has been written yet, or something
pub record IsAt (m : FileAmender) (s : ParseState) (none : Bool) : Type 0 where
  pub fates : m.fates.now ≡ drop (length (kept_variables s.declared)) m.amendment.now.fates.items
  pub used : (code : List ℕ) → (code_target m.uses code).is_used
      ≡ is_used (amendment_contents m.amendment.now) s code
  pub amended : (code : List ℕ) → (code_target m.uses code).amended
      ≡ amended_index code (amendment_contents m.amendment.now).codes
  pub progress : AllProgressMatches s (amendment_contents m.amendment.now).codes m.progress.items
  pub counts : length m.counts.items ≡ length m.amendment.now.codes.items
  pub due : AreDueFrom (amendment_contents m.amendment.now).codes s.tick
      (map due_transition (drop m.next m.due.items))
  pub within : All (λ d. d.index < length m.amendment.now.codes.items) m.due.items
  pub apart : AreApart (amendment_contents m.amendment.now).codes
  pub tick : m.tick ≡ s.tick
  pub none_yet : m.none_yet ≡ none

-- it has seen these pieces. The greatest number of kept variables does not matter
abbrev pub HasSeen : FileAmender → List Piece → Type 0
HasSeen m pieces = IsAt m (state_of_pieces 0 pieces)
    (none_yet_after (amendment_contents m.amendment.now) true (initial_state 0) pieces)

-- ---- a variable

-- the variable that these words declare after a state
abbrev pub declared_in : ParseState → (kind size code : List ℕ) → (names : List (List ℕ))
    → VariableDeclaration
declared_in s kind size code names = record {
  scopes = s.scopes;
  kind = kind;
  size = number_of size;
  code = code;
  words = names;
}

-- the state with one variable more
abbrev pub with_declared : ParseState → VariableDeclaration → ParseState
with_declared s d = record s { declared = s.declared ++ d ∷ [] }

-- the `$var` of these words, with these bytes
abbrev pub piece_of_variable : (space body kind size code : List ℕ) → (names : List (List ℕ))
    → Piece
piece_of_variable space body kind size code names =
    record { item = variable (kind ∷ size ∷ code ∷ names); space = space; body = body }

-- the fate of the next variable, by those that are left
abbrev pub fate_contents_first : (is_kept : Bool) → List Fate → spec.Fate
fate_contents_first false fates = spec.stays
fate_contents_first true [] = spec.stays
fate_contents_first true (f ∷ fs) = fate_contents f
