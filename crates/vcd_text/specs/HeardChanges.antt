-- The changes of a file as they are heard: each with the first variable of its code, and the bytes
-- that write its value. The project's own.
use Rattle.std.specs.Prelude.{◌≡◌, ℕ, suc, ◌==◌, Bool, false, List, [], ◌∷◌, ◌++◌, map, filter}
use Rattle.std.specs.Prelude.{Option, Some, None, if◌then◌else◌, bytes_eq}
use Rattle.vcd_core.specs.declared.wave.Change.{Change}
use Rattle.vcd_core.specs.Wave.{change}
use Rattle.vcd_text.specs.Words.{words_of}
use Rattle.vcd_text.specs.Letters.{extension, letters_of_digits}
use Rattle.vcd_text.specs.Items.{Item, scalar, vector, real_or_string}
use Rattle.vcd_text.specs.Grammar.{VariableDeclaration, ParseState, Accepts, AllowsAll}
use Rattle.vcd_text.specs.Grammar.{initial_state, state_after, state_after_item, is_skipped}
use Rattle.vcd_text.specs.Grammar.{kept_variables, variable_of}
use Rattle.vcd_text.specs.declared.reading.heard_changes.ChangeTarget.{ChangeTarget}
use Rattle.vcd_text.specs.declared.reading.heard_changes.ChangeTarget.TheVariants.{Kept, Skipped}

-- a change: from this tick on, all variables with the code of the target have the value that the
-- text writes
pub record HeardChange : Type 0 where
  pub tick : ℕ
  pub target : ChangeTarget
  pub text : List ℕ

-- the position of the first of some variables with a code
unfoldable pub first_with : (code : List ℕ) → List VariableDeclaration → ℕ
first_with code [] = 0
first_with code (d ∷ ds) = if bytes_eq code d.code then 0 else suc (first_with code ds)

-- ---- what is heard

-- the variables that are skipped
abbrev pub skipped_variables : List VariableDeclaration → List VariableDeclaration
skipped_variables declared = filter is_skipped declared

-- the first of the declared variables with a code, which is this one
abbrev pub heard_target : List VariableDeclaration → (code : List ℕ) → VariableDeclaration
    → ChangeTarget
heard_target declared code d =
    if is_skipped d then Skipped (first_with code (skipped_variables declared))
    else Kept (first_with code (kept_variables declared))

-- what is heard of a change of a code to the value of a text, if this is its first variable
abbrev pub heard_value : ParseState → (code text : List ℕ) → Option VariableDeclaration
    → List HeardChange
heard_value s code text None = []
heard_value s code text (Some d) =
    record { tick = s.tick; target = heard_target s.declared code d; text = text } ∷ []

-- what is heard of a change to a real number or a string, which a kept variable does not take
abbrev pub heard_word : ParseState → (code word : List ℕ) → Option VariableDeclaration
    → List HeardChange
heard_word s code word None = []
heard_word s code word (Some d) =
    if is_skipped d then heard_value s code word (Some d) else []

-- what is heard of an item
abbrev pub heard_of : ParseState → Item → List HeardChange
heard_of s (scalar digit code) = heard_value s code (digit ∷ []) (variable_of s code)
heard_of s (vector first digits code) = heard_value s code digits (variable_of s code)
heard_of s (real_or_string first text code) =
    heard_word s code (first ∷ text) (variable_of s code)
heard_of s item = []

-- what is heard of items, one after another
unfoldable pub heard_all : ParseState → List Item → List HeardChange
heard_all s [] = []
heard_all s (i ∷ is) = heard_of s i ++ heard_all (state_after_item s i) is

-- items lead from one state to another, and this is heard of them
pub record AreHeard (from to : ParseState) (heard : List HeardChange) : Type 0 where
  pub items : List Item
  pub allowed : AllowsAll from items
  pub state_is : state_after from items ≡ to
  pub heard_is : heard ≡ heard_all from items

-- the file is accepted with this state, and this is heard of its items
pub record FileIsHeard (limit : ℕ) (bytes : List ℕ) (state : ParseState) (heard : List HeardChange)
    : Type 0 where
  pub accepted : Accepts limit (words_of bytes) state
  pub heard_is : heard ≡ heard_all (initial_state limit) accepted.items

-- ---- the changes of a variable

-- whether a target is the kept variable at a position
abbrev pub is_of_kept : (position : ℕ) → ChangeTarget → Bool
is_of_kept position (Kept k) = k == position
is_of_kept position (Skipped k) = false

-- the changes of the kept variable at a position, each with its letters extended to a size
abbrev pub heard_changes : (size position : ℕ) → List HeardChange → List Change
heard_changes size position heard =
    map (λ h. change h.tick (extension size (letters_of_digits h.text)))
    (filter (λ h. is_of_kept position h.target) heard)
