-- Every file has a result: its words are accepted, or one shows a fault, or they end too early.
use Rattle.std.proofs.Common.{◌≡◌, ◌⊎◌, inl, inr, ℕ, zero, suc, ◌<◌, ◌≤◌, List, [], ◌∷◌, ◌++◌, length, refl, ap, ◌∙◌}
use Rattle.std.proofs.Common.{append_assoc, arith}
use Rattle.std.proofs.lemmas.List.{append-nil, map-append, length-append, length-map}
use Rattle.std.proofs.lemmas.Bool.{cases_Bool}
use Rattle.vcd_core.specs.Contents.{Contents}
use Rattle.vcd_text.specs.declared.fault.Fault.{Fault}
use Rattle.vcd_text.specs.declared.fault.Fault.TheVariants.{Truncated}
use Rattle.vcd_text.specs.Words.{WordOnLine, words_of, last_line}
use Rattle.vcd_text.specs.Items.{Item, spelling, spellings}
use Rattle.vcd_text.specs.Grammar.{ParseState, Allows, Accepts, state_after_item, initial_state, word_texts}
use Rattle.vcd_text.specs.Faults.{fault_line, ShowsFault, WordShows}
use Rattle.vcd_text.specs.FoundFaults.{IsFoundFault, IsUnfinished, Stops, word_shows, too_early}
use Rattle.vcd_text.specs.Meaning.{FileMeans, meaning}
use Rattle.vcd_text.specs.inside.shared.SkippedCount.{skipped_count}
use Rattle.vcd_text.proofs.shared.ItemsInTurn.{Reaches, reaches_none, reaches_one, reaches_both, shown_by}
use Rattle.vcd_text.proofs.shared.Unfinished.{declaration_due}
use Rattle.vcd_text.proofs.shared.WordOutcomes.{beginning, last_word, shows_fault, whole_item, goes_on}

-- the result of all words of a file
data AnswerTo (limit : ℕ) (words : List WordOnLine) : Type 0 where
  is_accepted : (state : ParseState) → Accepts limit words state → AnswerTo limit words
  stops_early : Stops limit words → AnswerTo limit words
  is_refused : (line : ℕ) (fault : Fault) → ShowsFault limit words line fault → AnswerTo limit words

-- the words are those of whole items, and those to come
record WordsSoFar (limit : ℕ) (words rest : List WordOnLine) : Type 0 where
  items : List Item
  whole : List WordOnLine
  state : ParseState
  parts : words ≡ whole ++ rest
  spelled : word_texts whole ≡ spellings items
  leads : Reaches (initial_state limit) items state

-- ---- texts of words

pub texts_more : (begun : List WordOnLine) (w : WordOnLine)
    → word_texts (begun ++ w ∷ []) ≡ word_texts begun ++ w.text ∷ []
texts_more begun w = map-append (λ (v : WordOnLine). v.text) begun (w ∷ [])

pub spelled_more : (items : List Item) (i : Item) → spellings (items ++ i ∷ []) ≡ spellings items ++ spelling i
spelled_more [] i = append-nil (spelling i)
spelled_more (j ∷ items) i = grind (arith, append_assoc, spelled_more items i)

-- words whose texts are two lists
record InParts (words : List WordOnLine) (xs ys : List (List ℕ)) : Type 0 where
  first : List WordOnLine
  rest : List WordOnLine
  parts : words ≡ first ++ rest
  first_texts : word_texts first ≡ xs
  rest_texts : word_texts rest ≡ ys

in_parts : (words : List WordOnLine) (xs ys : List (List ℕ)) → word_texts words ≡ xs ++ ys → InParts words xs ys
in_parts words [] ys e = record { first = []; rest = words; parts = refl; first_texts = refl; rest_texts = e }
in_parts [] (x ∷ xs) ys e = absurd (cc e)
in_parts (w ∷ ws) (x ∷ xs) ys e =
    let p = in_parts ws xs ys (cc e) in
    let here : w.text ≡ x = cc e in
    record {
      first = w ∷ p.first;
      rest = p.rest;
      parts = ap (λ vs. w ∷ vs) p.parts;
      first_texts = ap (λ v. v ∷ word_texts p.first) here ∙ ap (λ vs. x ∷ vs) p.first_texts;
      rest_texts = p.rest_texts;
    }

-- ---- what the words to come begin with

-- a word of them shows a fault
refused : (limit : ℕ) (words rest begun more : List WordOnLine) (w : WordOnLine) (fault : Fault)
    (u : WordsSoFar limit words rest)
    → rest ≡ begun ++ w ∷ more → WordShows u.state (word_texts begun) w.text fault → AnswerTo limit words
refused limit words rest begun more w fault u parts shown = is_refused (fault_line u.state.in_body begun w) fault
    (shown_by _ _ _ _ _ _ _ _ _ _ u.leads (u.parts ∙ ap (λ ws. u.whole ++ ws) parts) u.spelled shown refl)

refused_at : (limit : ℕ) (words rest begun found : List WordOnLine) (word : List ℕ) (more : List (List ℕ))
    (fault : Fault) (u : WordsSoFar limit words rest) → rest ≡ begun ++ found → word_texts found ≡ word ∷ more
    → WordShows u.state (word_texts begun) word fault → AnswerTo limit words
refused_at limit words rest begun [] word more fault u parts is shown = absurd (cc is)
refused_at limit words rest begun (w ∷ ws) word more fault u parts is shown =
    let here : w.text ≡ word = cc is in
    refused limit words rest begun ws w fault u parts (rw here shown)

-- they begin with a whole item
with_item : (limit : ℕ) (words rest : List WordOnLine) (u : WordsSoFar limit words rest) (i : Item)
    (more : List (List ℕ)) → Allows u.state i → (p : InParts rest (spelling i) more) → WordsSoFar limit words p.rest
with_item limit words rest u i more allows p = record {
  items = u.items ++ i ∷ [];
  whole = u.whole ++ p.first;
  state = state_after_item u.state i;
  parts = grind (arith, append_assoc);
  spelled = grind (arith, map-append, spelled_more);
  leads = reaches_both _ _ _ _ _ u.leads (reaches_one _ _ i allows refl);
}

fewer_left : (rest : List WordOnLine) (i : Item) (more : List (List ℕ)) (p : InParts rest (spelling i) more)
    → length p.rest < length rest
fewer_left rest i more p = grind (arith, last_word, length-append, length-map)

-- a word must follow them
stops_here : (limit : ℕ) (words rest : List WordOnLine) (u : WordsSoFar limit words rest)
    → IsUnfinished u.state (word_texts rest) → AnswerTo limit words
stops_here limit words rest u due = grind (arith, map-append)

at_end : (limit : ℕ) (words : List WordOnLine) (u : WordsSoFar limit words []) → AnswerTo limit words
at_end limit words u =
    elim (cases_Bool u.state.in_body) [
      | inl in_body ↦ (is_accepted u.state (grind (arith, append-nil)))
      | inr declares ↦ stops_here limit words [] u (declaration_due u.state declares)
    ]

-- ---- all words

answer_after : (limit : ℕ) (count : ℕ) (words rest : List WordOnLine) → length rest ≤ count →
    WordsSoFar limit words rest → AnswerTo limit words
answer_after limit count words [] few u = at_end limit words u
answer_after limit zero words (w ∷ ws) few u = absurd (omega (arith, few))
answer_after limit (suc count) words (w ∷ ws) few u =
    elim (beginning u.state w.text (word_texts ws)) [
      | shows_fault begun word more fault is shown ↦
          let p = in_parts (w ∷ ws) begun (word ∷ more) is in
          refused_at limit words (w ∷ ws) p.first p.rest word more fault u p.parts p.rest_texts (rw p.first_texts shown)
      | whole_item i more is allows ↦
          let p = in_parts (w ∷ ws) (spelling i) more is in
          answer_after limit count words p.rest (omega (arith, few, fewer_left (w ∷ ws) i more p))
          (with_item limit words (w ∷ ws) u i more allows p)
      | goes_on due ↦ stops_here limit words (w ∷ ws) u due
    ]

-- before the first word
nothing_taken : (limit : ℕ) (words : List WordOnLine) → WordsSoFar limit words words
nothing_taken limit words = record {
  items = [];
  whole = [];
  state = (initial_state limit);
  parts = refl;
  spelled = refl;
  leads = reaches_none (initial_state limit);
}

pub a_found_answer : (limit : ℕ) (bytes : List ℕ) → ((c : Contents) × (n : ℕ) × FileMeans limit bytes c n)
    ⊎ ((line : ℕ) × (fault : Fault) × IsFoundFault limit bytes line fault)
a_found_answer limit bytes =
    elim (answer_after limit (length (words_of bytes)) _ _ (omega arith) (nothing_taken _ _)) [
      | is_accepted state accepts ↦
          inl (
            meaning state,
            skipped_count state,
            record { state = state; accepted = accepts; means = refl; left_out = refl },
          )
      | stops_early stops ↦ inr (last_line bytes, Truncated, too_early stops refl refl)
      | is_refused line fault s ↦ inr (line, fault, word_shows s)
    ]
