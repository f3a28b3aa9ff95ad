-- The one fault of a file that is not accepted: what is wrong with the word after its whole items
-- and an unfinished one. The project's own. No second word can show a fault (law `has_one_answer`).
use Rattle.std.specs.Prelude.{◌≡◌, ℕ, Bool, true, false, List, ◌∷◌, ◌++◌, Some}
use Rattle.std.specs.Prelude.{IsTrue}
use Rattle.std.specs.Prelude.{codes, []}
use Rattle.vcd_text.specs.declared.fault.Fault.{Fault}
use Rattle.vcd_text.specs.declared.fault.Fault.TheVariants.{Truncated, UnexpectedWord}
use Rattle.vcd_text.specs.declared.fault.Fault.TheVariants.{BadScope}
use Rattle.vcd_text.specs.declared.fault.Fault.TheVariants.{UpscopeAtTop, BadVar}
use Rattle.vcd_text.specs.declared.fault.Fault.TheVariants.{BadChange}
use Rattle.vcd_text.specs.declared.fault.ReadError.{ReadError}
use Rattle.vcd_core.specs.Contents.{Contents}
use Rattle.vcd_text.specs.Words.{WordOnLine, words_of, complete_words, last_line}
use Rattle.vcd_text.specs.Meaning.{FileMeans}
use Rattle.vcd_core.specs.Word.{is_one_of}
use Rattle.std.specs.Prelude.{bytes_eq, if◌then◌else◌}
use Rattle.vcd_core.specs.Tests.{first_fault}
use Rattle.vcd_text.specs.Grammar.{fits, item_tests}
use Rattle.vcd_text.specs.Items.{spelling}
use Rattle.vcd_text.specs.Items.{Item, spellings}
use Rattle.vcd_text.specs.Items.{declaration_words}
use Rattle.vcd_text.specs.Grammar.{ParseState}
use Rattle.vcd_text.specs.Grammar.{initial_state}
use Rattle.vcd_text.specs.Grammar.{word_texts, AllowsAll, state_after}

-- ---- the faults of words

-- an item that fits here has these words, then this one
abbrev pub GoesOn : ParseState → (begun : List (List ℕ)) → (word : List ℕ) → Type 0
GoesOn s begun word = (i : Item) × (more : List (List ℕ)) × IsTrue (fits s i)
    × (spelling i ≡ begun ++ word ∷ more)

-- the fault of a word with which no item goes on
abbrev pub misfit_fault : (in_body : Bool) → (begun : List (List ℕ)) → (word : List ℕ) → Fault
-- among the changes (`begun` is empty): a declaration, or no change, as a digit without a code
misfit_fault true begun word =
    if is_one_of declaration_words word then UnexpectedWord else BadChange
-- `$upscope` while no scope is open, or a word that begins no declaration
misfit_fault false [] word =
    if bytes_eq word (codes "$upscope") then UpscopeAtTop else UnexpectedWord
-- `$end` in the place of a scope's kind, a size that is no number, or a word other than `$end`
-- after `$upscope` or `$enddefinitions`
misfit_fault false (keyword ∷ words) word =
    if bytes_eq keyword (codes "$scope") then BadScope
    else (if bytes_eq keyword (codes "$var") then BadVar else UnexpectedWord)

-- the fault of a word after the words `begun` of an unfinished item
pub data WordShows (s : ParseState) (begun : List (List ℕ)) (word : List ℕ) (fault : Fault)
    : Type 0 where
  -- the word ends an item, and this is the fault of the first of its tests that fails
  test_fails : (i : Item) → IsTrue (fits s i) → spelling i ≡ begun ++ word ∷ []
      → first_fault (item_tests s i) ≡ Some fault → WordShows s begun word fault
  -- other words could follow, but no item goes on with this one
  misfits : (next : List ℕ) → GoesOn s begun next → (GoesOn s begun word → ⊥)
      → fault ≡ misfit_fault s.in_body begun word → WordShows s begun word fault

-- ---- files

-- the line of a fault that a word shows: its own, or among the changes that of the first word of
-- its change
abbrev pub fault_line : (in_body : Bool) → (begun : List WordOnLine) → WordOnLine → ℕ
fault_line false begun word = word.line
fault_line true [] word = word.line
fault_line true (first ∷ begun) word = first.line

-- a word shows this fault, at this line; `whole` are the words of the items before it
pub record ShowsFault (limit : ℕ) (words : List WordOnLine) (line : ℕ) (fault : Fault)
    : Type 0 where
  pub items : List Item
  pub whole : List WordOnLine
  pub begun : List WordOnLine
  pub word : WordOnLine
  pub more : List WordOnLine
  pub parts : words ≡ whole ++ (begun ++ word ∷ more)
  pub spelled : word_texts whole ≡ spellings items
  pub allowed : AllowsAll (initial_state limit) items
  pub decided : WordShows (state_after (initial_state limit) items) (word_texts begun) word.text
      fault
  pub at : line ≡ fault_line (state_after (initial_state limit) items).in_body begun word

-- the fault of a file with these words: the one that a word shows; if none shows one, `otherwise`
-- at the last line (where the file only ends too early: law `has_an_answer`)
pub data HasFault (limit : ℕ) (words : List WordOnLine) (last : ℕ) (otherwise : Fault) (line : ℕ)
    (fault : Fault) : Type 0 where
  shown : ShowsFault limit words line fault → HasFault limit words last otherwise line fault
  none_shown : ((at : ℕ) (other : Fault) → ShowsFault limit words at other → ⊥) → line ≡ last
      → fault ≡ otherwise → HasFault limit words last otherwise line fault

-- the answer if only this prefix of a file was read: the fault of its complete words, or else
-- `otherwise` at its last line
abbrev pub IsPrefixAnswer : ℕ → (prefix : List ℕ) → (otherwise : Fault) → ReadError → Type 0
IsPrefixAnswer limit prefix otherwise e =
    HasFault limit (complete_words prefix) (last_line prefix) otherwise e.line e.fault

-- the file has no meaning, and this fault, at this line; no word of an accepted one shows a fault
abbrev pub IsFileFault : ℕ → List ℕ → ℕ → Fault → Type 0
IsFileFault limit bytes line fault =
    ((c : Contents) (skipped : ℕ) → FileMeans limit bytes c skipped → ⊥)
    × HasFault limit (words_of bytes) (last_line bytes) Truncated line fault
