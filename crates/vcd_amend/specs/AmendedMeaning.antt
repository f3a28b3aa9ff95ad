-- What an amended file means, and when an amendment fits a file. The project's own.
use Rattle.std.specs.Prelude.{◌≡◌, ℕ, true, ◌<◌, ◌≤◌, if◌then◌else◌, List, [], ◌∷◌, map, length}
use Rattle.std.specs.Prelude.{All}
use Rattle.std.specs.Prelude.{Option, Some, None, IsTrue, count_by}
use Rattle.std.specs.List.{list_all}
use Rattle.vcd_core.specs.declared.wave.Change.{Change}
use Rattle.vcd_core.specs.Word.{is_word}
use Rattle.vcd_core.specs.Wave.{value_at, changes_of, IsWave, AllUpTo}
use Rattle.vcd_core.specs.Contents.{Contents, SignalContents}
use Rattle.vcd_core.specs.Sound.{IsSoundSignal}
use Rattle.vcd_text.specs.Items.{Item}
use Rattle.vcd_text.specs.Grammar.{VariableDeclaration, ParseState, is_skipped, kept_variables}
use Rattle.vcd_text.specs.Grammar.{state_after, initial_state}
use Rattle.vcd_text.specs.Grammar.{AllowsAll}
use Rattle.vcd_text.specs.Meaning.{declared_signal, changes_of_code, meaning}
use Rattle.vcd_amend.specs.Amendment.{AmendedCode, Fate, Amendment, is_changed, amended_variables}
use Rattle.vcd_amend.specs.Amendment.{first_with_code, is_used, amended_code}
use Rattle.vcd_amend.specs.AmendedItems.{amended_items}

-- ---- the meaning

-- the wave of a code in the amended file, if it is this amended code or none, and this its wave in
-- the file
abbrev pub amended_wave : Option AmendedCode → List Change → List Change
amended_wave None changes = changes
amended_wave (Some c) changes = c.new

-- the signal of a variable of the amended file
abbrev pub amended_signal : Amendment → ParseState → VariableDeclaration → SignalContents
amended_signal a s d = record (declared_signal s.value_changes s.tick d) {
  changes = amended_wave (amended_code d.code a.codes)
      (declared_signal s.value_changes s.tick d).changes;
}

-- the meaning of a file with this state once it is amended
abbrev pub amended_meaning : Amendment → ParseState → Contents
amended_meaning a s = record (meaning s) {
  signals = map (amended_signal a s) (kept_variables (amended_variables a s.declared));
}

-- ---- the amendments that fit

-- no code is that of a later amended code
abbrev pub AreApart : List AmendedCode → Type 0
AreApart [] = Unit {0}
AreApart (c ∷ cs) = (amended_code c.code cs ≡ None) × AreApart cs

-- what the variables of a code share: they are skipped, or have a size
abbrev pub class_of : VariableDeclaration → Option ℕ
class_of d = if is_skipped d then None else Some d.size

-- a variable can have its code: the amended code has its size, or else the first variable of the
-- code in the file is of its class
abbrev pub FitsCode : Option AmendedCode → (first : Option VariableDeclaration)
    → VariableDeclaration → Type 0
FitsCode (Some c) first d = class_of d ≡ Some c.width
FitsCode None (Some first) d = class_of d ≡ class_of first
FitsCode None None d = ⊥

-- the new name and the new code are words
abbrev pub FitsFate : Fate → Type 0
FitsFate (is_changed words code) =
    IsTrue (list_all is_word words) × (0 < length words) × IsTrue (is_word code)
FitsFate fate = Unit {0}

-- an amended code: it is a word, a variable of the amended file has it, and if variables of the
-- file have it, they have its width; the old wave is that of the code in the file, and the new one
-- ends with the file
pub record FitsAmendedCode (a : Amendment) (s : ParseState) (c : AmendedCode) : Type 0 where
  pub word : IsTrue (is_word c.code)
  pub used : IsTrue (is_used a s c.code)
  pub fits : (d : VariableDeclaration) → first_with_code c.code s.declared ≡ Some d
      → class_of d ≡ Some c.width
  pub old : c.old ≡ changes_of c.width s.tick (value_at c.width (changes_of_code c.width c.code
      s.value_changes))
  pub new : IsWave c.width c.new
  pub upto : AllUpTo s.tick c.new

-- the amendment fits a file with this state
pub record FitsFile (a : Amendment) (s : ParseState) : Type 0 where
  pub fates : All FitsFate a.fates
  pub added : All (λ d. IsTrue (is_word d.code) × IsSoundSignal s.tick (amended_signal a s d))
      a.added
  pub codes : All (FitsAmendedCode a s) a.codes
  pub apart : AreApart a.codes
  pub variables : All (λ d. FitsCode (amended_code d.code a.codes)
      (first_with_code d.code s.declared) d) (amended_variables a s.declared)
  pub few : length (amended_meaning a s).signals ≤ s.limit

-- ---- the laws

-- items that are accepted, and mean what a state means once it is amended; as many variables are
-- skipped as in that state
pub record MeansAmended (a : Amendment) (limit : ℕ) (s : ParseState) (items : List Item) : Type 0
  where
    pub allowed : AllowsAll (initial_state limit) items
    pub in_body : IsTrue (state_after (initial_state limit) items).in_body
    pub means : meaning (state_after (initial_state limit) items) ≡ amended_meaning a s
    pub left_out : count_by is_skipped (state_after (initial_state limit) items).declared
        ≡ count_by is_skipped s.declared

-- if an amendment fits an accepted file, the items of the amended file are accepted, and mean the
-- amended capture
abbrev pub AmendedFileMeansAmendedCapture : Type 0
AmendedFileMeansAmendedCapture = (a : Amendment) (limit : ℕ) (items : List Item)
    → AllowsAll (initial_state limit) items
    → IsTrue (state_after (initial_state limit) items).in_body
    → FitsFile a (state_after (initial_state limit) items)
    → MeansAmended a limit (state_after (initial_state limit) items)
    (amended_items a true (initial_state limit) items)
