-- The fault of a file as it is found: a word shows it, or the words end too early.
use Rattle.std.specs.Prelude.{◌≡◌, ℕ, List, ◌++◌, length, IsTrue}
use Rattle.vcd_text.specs.declared.fault.Fault.{Fault}
use Rattle.vcd_text.specs.declared.fault.Fault.TheVariants.{Truncated}
use Rattle.vcd_text.specs.Words.{WordOnLine, words_of, complete_words, last_line}
use Rattle.vcd_text.specs.Items.{Item, spellings}
use Rattle.vcd_text.specs.Grammar.{ParseState, initial_state, word_texts, AllowsAll}
use Rattle.vcd_text.specs.Grammar.{state_after}
use Rattle.std.specs.Prelude.{not, ◌||◌, nat_lt}
use Rattle.vcd_text.specs.Faults.{GoesOn, ShowsFault}

-- a word must follow these: those of an incomplete item, or none while `$enddefinitions $end` has
-- not come
abbrev pub IsUnfinished : ParseState → (begun : List (List ℕ)) → Type 0
IsUnfinished c begun = IsTrue (not c.in_body || nat_lt 0 (length begun))
    × ((next : List ℕ) × GoesOn c begun next)

-- the words end too early, and no word shows a fault
pub record Stops (limit : ℕ) (words : List WordOnLine) : Type 0 where
  pub items : List Item
  pub begun : List (List ℕ)
  pub spelled : word_texts words ≡ spellings items ++ begun
  pub allowed : AllowsAll (initial_state limit) items
  pub unfinished : IsUnfinished (state_after (initial_state limit) items) begun

-- the fault of a file, at this line: a word shows it, or the words end too early
pub data IsFoundFault (limit : ℕ) (bytes : List ℕ) (line : ℕ) (fault : Fault) : Type 0 where
  word_shows : ShowsFault limit (words_of bytes) line fault → IsFoundFault limit bytes line fault
  too_early : Stops limit (words_of bytes) → line ≡ last_line bytes → fault ≡ Truncated
      → IsFoundFault limit bytes line fault

-- a complete word of this prefix of a file shows this fault, at this line, whatever follows the
-- prefix
abbrev pub PrefixShows : ℕ → List ℕ → ℕ → Fault → Type 0
PrefixShows limit bytes line fault = ShowsFault limit (complete_words bytes) line fault
