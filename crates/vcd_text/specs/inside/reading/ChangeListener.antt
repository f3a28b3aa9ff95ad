-- What hears the changes of a file: what it has heard of the words so far.
use Rattle.std.specs.Prelude.{◌≡◌, ℕ, Bool, true, false, List, [], ◌∷◌, ◌++◌, IsTrue}
use Rattle.std.specs.Prelude.{if◌then◌else◌}
use Rattle.vcd_text.specs.Words.{WordOnLine, words_of}
use Rattle.vcd_text.specs.Letters.{is_binary_digit}
use Rattle.vcd_text.specs.Grammar.{ParseState, initial_state, variable_of, word_texts}
use Rattle.vcd_text.specs.HeardChanges.{HeardChange, heard_value, heard_word, heard_all}
use Rattle.vcd_text.specs.inside.reading.Part.{Asked}
use Rattle.vcd_text.specs.inside.reading.Parser.{HasTakenWords}
use Rattle.vcd_text.specs.inside.reading.SkippedVariables.{HasSkipped, KnowsSize}
use Rattle.vcd_text.specs.declared.reading.change_listener.ChangeListener.{ChangeListener}
use Rattle.vcd_text.specs.declared.reading.parser.Parser.{Parser}
use Rattle.vcd_text.specs.declared.reading.parser.OpenItem.{OpenItem}
use Rattle.vcd_text.specs.declared.reading.parser.OpenItem.TheVariants as items

-- whether the code of a change of two words is next
abbrev pub awaits_code : OpenItem → Bool
awaits_code items.Vector = true
awaits_code items.RealOrString = true
awaits_code item = false

-- what is heard of the item that a word of this text ends: `earlier` was open before it, and
-- `first` is the first word if this was a change of two words
abbrev pub heard_at_end : (earlier : OpenItem) → ParseState → (first text : List ℕ)
    → List HeardChange
heard_at_end items.Nothing s first [] = []
heard_at_end items.Nothing s first (digit ∷ code) =
    if is_binary_digit digit then heard_value s code (digit ∷ []) (variable_of s code) else []
heard_at_end items.Vector s [] text = []
heard_at_end items.Vector s (letter ∷ digits) text =
    heard_value s text digits (variable_of s text)
heard_at_end items.RealOrString s first text = heard_word s text first (variable_of s text)
heard_at_end earlier s first text = []

-- these words have been taken; what was heard before the start and since is what is heard of them,
-- and it has the skipped variables
pub record HasHeardWords (limit : ℕ) (start now : ChangeListener) (m : Parser)
    (words : List WordOnLine) : Type 0 where
  pub asked : Asked
  pub taken : HasTakenWords limit asked m words
  pub heard : start.heard ++ now.heard ≡ heard_all (initial_state limit) taken.items
  pub first : IsTrue (awaits_code m.item) → word_texts taken.begun ≡ now.first_word.items ∷ []
  pub skipped : HasSkipped now.skipped taken.state.declared
  pub size : KnowsSize m.item (word_texts taken.begun) now.skipped

-- the same of the words of these bytes
abbrev pub HasHeardSince : (limit : ℕ) → (start now : ChangeListener) → Parser → List ℕ → Type 0
HasHeardSince limit start now m bytes = HasHeardWords limit start now m (words_of bytes)
