-- The complete words of a prefix are the first words of every file with this prefix, so a fault that
-- they show is the file's.
use Rattle.std.proofs.Common.{◌≡◌, ℕ, Bool, true, false, List, [], ◌∷◌, ◌++◌, refl, ap, ◌∙◌, append_assoc, cond, sym}
use Rattle.vcd_core.specs.Word.{is_white_space}
use Rattle.vcd_text.specs.declared.fault.Fault.{Fault}
use Rattle.vcd_text.specs.Words.{WordOnLine, words_of, complete_words}
use Rattle.vcd_text.specs.inside.Words.{word_of, line_after, words_from}
use Rattle.vcd_text.specs.Faults.{ShowsFault}
use Rattle.vcd_text.specs.FoundFaults.{IsFoundFault, word_shows, PrefixShows}
use Rattle.vcd_text.proofs.shared.ItemsInTurn.{shown_by}
use Rattle.vcd_text.proofs.shared.WordsByBytes.{words_by_bytes, complete_by_bytes}
use Rattle.vcd_text.specs.Grammar.{state_after, initial_state}

-- the first words of a list of words
abbrev pub IsPrefix : List WordOnLine → List WordOnLine → Type 0
IsPrefix first all = (more : List WordOnLine) × (all ≡ first ++ more)

complete_in_prefix : (end_counts : Bool) (begun : List ℕ) (line : ℕ) (prefix rest : List ℕ)
    → IsPrefix (words_from false begun line prefix) (words_from end_counts begun line (prefix ++ rest))
unfolding words_from
complete_in_prefix end_counts begun line [] rest = (words_from end_counts begun line rest, refl)
complete_in_prefix end_counts begun line (b ∷ prefix) rest =
    let ended : List WordOnLine = cond (is_white_space b) (word_of begun line) [] in
    let next : List ℕ = cond (is_white_space b) [] (begun ++ b ∷ []) in
    let further = complete_in_prefix end_counts next (line_after b line) prefix rest in (
      further.0,
      ap (λ ws. ended ++ ws) further.1
          ∙ sym (append_assoc ended (words_from false next (line_after b line) prefix) further.0),
    )

pub complete_in_file : (prefix rest : List ℕ) → IsPrefix (complete_words prefix) (words_of (prefix ++ rest))
complete_in_file prefix rest =
    let further = complete_in_prefix true [] 1 prefix rest in (
      further.0,
      words_by_bytes (prefix ++ rest) ∙ further.1 ∙ ap (λ ws. ws ++ further.0) (sym (complete_by_bytes prefix)),
    )

pub complete_in_longer : (prefix rest : List ℕ) → IsPrefix (complete_words prefix) (complete_words (prefix ++ rest))
complete_in_longer prefix rest =
    let further = complete_in_prefix false [] 1 prefix rest in (
      further.0,
      complete_by_bytes (prefix ++ rest) ∙ further.1 ∙ ap (λ ws. ws ++ further.0) (sym (complete_by_bytes prefix)),
    )

-- a fault that words show is shown whatever words follow
shown_further : (limit : ℕ) (words all : List WordOnLine) (line : ℕ) (fault : Fault) → IsPrefix words all
    → ShowsFault limit words line fault → ShowsFault limit all line fault
shown_further limit words all line fault prefix s = shown_by limit all s.whole s.begun (s.more ++ prefix.0) s.word
    s.items (state_after (initial_state limit) s.items) line fault (record { allowed = s.allowed; state_is = refl })
    (prefix.1 ∙ ap (λ ws. ws ++ prefix.0) s.parts ∙ append_assoc s.whole (s.begun ++ s.word ∷ s.more) prefix.0
    ∙ ap (λ ws. s.whole ++ ws) (append_assoc s.begun (s.word ∷ s.more) prefix.0)) s.spelled s.decided s.at

pub prefix_fault_found : (limit : ℕ) (prefix rest : List ℕ) (line : ℕ) (fault : Fault) →
    PrefixShows limit prefix line fault
    → IsFoundFault limit (prefix ++ rest) line fault
prefix_fault_found limit prefix rest line fault s =
    word_shows (shown_further _ _ _ _ _ (complete_in_file _ rest) s)

-- the fault of a prefix is that of a longer prefix as well
pub longer_prefix_fault : (limit : ℕ) (prefix rest : List ℕ) (line : ℕ) (fault : Fault) →
    PrefixShows limit prefix line fault
    → PrefixShows limit (prefix ++ rest) line fault
longer_prefix_fault limit prefix rest line fault s =
    shown_further _ _ _ _ _ (complete_in_longer _ rest) s
