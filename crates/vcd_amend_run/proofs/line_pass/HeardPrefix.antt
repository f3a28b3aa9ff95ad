-- What was heard of a file so far begins what is heard of the whole file, if this is accepted.
use Rattle.std.proofs.Common.{◌≡◌, ℕ, List, [], ◌∷◌, ◌++◌, length, refl, sym, ap, subst, ◌∙◌, arith, append_assoc}
use Rattle.std.proofs.Common.{Option, Some, None, true, false, not, ◌<◌}
use Rattle.std.specs.List.{list_all}
use Rattle.vcd_core.specs.Word.{is_white_space}
use Rattle.std.specs.Io.KnownBytes.{Consumes}
use Rattle.std.proofs.lemmas.List.{length-append, map-append, append-nil}
use Rattle.vcd_core.specs.declared.capture.TheConstants.{SIGNAL_LIMIT}
use Rattle.vcd_text.specs.Words.{WordOnLine, words_of, complete_words}
use Rattle.vcd_text.specs.Items.{Item, spelling, spellings}
use Rattle.vcd_text.specs.Grammar.{ParseState, AllowsAll, state_after_item, state_after, initial_state, word_texts}
use Rattle.vcd_text.specs.HeardChanges.{HeardChange, AreHeard, FileIsHeard, heard_all, heard_of}
use Rattle.vcd_text.specs.inside.reading.ChangeStream.{HasStreamed}
use Rattle.vcd_text.specs.declared.reading.change_stream.ChangeStream.{ChangeStream}
use Rattle.vcd_text.specs.inside.Words.{words_from, ComesBefore}
use Rattle.vcd_text.proofs.shared.Chunks.{words_complete}
use Rattle.vcd_text.proofs.shared.FaultOfPrefix.{complete_in_file}
use Rattle.vcd_text.proofs.shared.FirstItem.{one_item, one_rest}
use Rattle.vcd_text.proofs.shared.NoWordLeft.{texts_are}
use Rattle.vcd_text.proofs.shared.WordsByBytes.{words_by_bytes, complete_by_bytes}
use Rattle.vcd_text.proofs.shared.WordsInTurn.{word_part}

-- ---- items

-- items that are the first of others
abbrev IsFront : (is js : List Item) → Type 0
IsFront is js = (more : List Item) × (js ≡ is ++ more)

has_words : (i : Item) → 0 < length (spelling i)
has_words i = grind arith

-- items whose words are the first ones of other items are the first of these
items_begin : (c : ParseState) (is js : List Item) (rest : List (List ℕ)) → spellings is ++ rest ≡ spellings js
    → AllowsAll c is → AllowsAll c js → IsFront is js
items_begin c [] js rest e a b = (js, refl)
items_begin c (i ∷ is) [] rest e a b = absurd (omega (
  arith,
  ap length e,
  length-append (spelling i ++ spellings is) rest,
  length-append (spelling i) (spellings is),
  has_words i,
))
items_begin c (i ∷ is) (j ∷ js) rest e a b =
    let all : spelling i ++ (spellings is ++ rest) ≡ spelling j ++ spellings js =
    sym (append_assoc (spelling i) (spellings is) rest) ∙ e in
    let one : i ≡ j = one_item c i j _ _ a.0.0 b.0.0 all in
    let tail = items_begin (state_after_item c j) is js rest (one_rest i j _ _ one all) (rw one at a.1) b.1 in
    (tail.0, λ k. sym one k ∷ tail.1 k)

-- what is heard of the items after the first ones
heard_after : (first : ParseState) (is js : List Item)
    → heard_all first (is ++ js) ≡ heard_all first is ++ heard_all (state_after first is) js
unfolding heard_all
heard_after first [] js = refl
heard_after first (i ∷ is) js =
    ap (λ hs. heard_of first i ++ hs) (heard_after (state_after_item first i) is js)
    ∙ sym (append_assoc (heard_of first i) (heard_all (state_after_item first i) is) _)

allowed_then : (first : ParseState) (is js : List Item) → AllowsAll first (is ++ js)
    → AllowsAll (state_after first is) js
allowed_then first [] js all = all
allowed_then first (i ∷ is) js (one, others) = allowed_then (state_after_item first i) is js others

state_then : (first : ParseState) (is js : List Item)
    → state_after first (is ++ js) ≡ state_after (state_after first is) js
state_then first [] js = refl
state_then first (i ∷ is) js = state_then (state_after_item first i) is js

-- ---- words

-- the complete words are those before the last white space
before_is_complete : (bytes before word : List ℕ) (line_feeds : ℕ) → bytes ≡ before ++ word
    → ComesBefore before line_feeds → list_all (λ b. not (is_white_space b)) word ≡ true
    → words_of before ≡ complete_words bytes
before_is_complete bytes before word line_feeds all (complete, feeds) no_space =
    words_by_bytes before ∙ sym (append-nil _) ∙ ap (λ ws. words_from true [] 1 before ++ ws) (sym (word_part _ word
    no_space)) ∙ sym (words_complete false 1 before word complete) ∙ ap (words_from false [] 1) (sym all)
    ∙ sym (complete_by_bytes bytes)

-- ---- what was heard

-- what is heard of the rest of a file
pub record IsHeardFurther (from to : ParseState) (heard all : List HeardChange) : Type 0 where
  pub rest : List HeardChange
  pub are : AreHeard (initial_state SIGNAL_LIMIT) from heard
  pub later : AreHeard from to rest
  pub parts : all ≡ heard ++ rest

abbrev pub heard_so_far : (coming left : Option (List ℕ)) (state : ParseState) (heard : List HeardChange)
    (s : ChangeStream) → HasStreamed coming left state heard s → AreHeard (initial_state SIGNAL_LIMIT) state heard
heard_so_far coming left state heard s h = record {
  items = h.taken.items;
  allowed = h.taken.allowed;
  state_is = h.taken.state_is ∙ h.state_is;
  heard_is = h.heard_is;
}

module _ (file : List ℕ) (left : Option (List ℕ)) (state : ParseState) (heard : List HeardChange) (s : ChangeStream)
    (final : ParseState) (all : List HeardChange) (h : HasStreamed (Some file) left state heard s)
    (f : FileIsHeard SIGNAL_LIMIT file final all) where
  words_begin : (left : Option (List ℕ)) → Consumes (Some file) left h.bytes
      → (more : List WordOnLine) × (words_of file ≡ words_of h.before ++ more)
  words_begin None consumed = absurd consumed
  words_begin (Some rest) consumed =
      let prefix = complete_in_file h.bytes rest in (
        prefix.0,
        ap words_of consumed ∙ prefix.1
            ∙ ap (λ (ws : List WordOnLine). ws ++ prefix.0) (sym (before_is_complete h.bytes h.before
            s.reader.buffer.bytes s.reader.line_feeds h.all h.ends h.reads.no_space)),
      )

  front : IsFront h.taken.items f.accepted.items
  front =
      let (more, words) = words_begin left h.consumed in
      items_begin (initial_state SIGNAL_LIMIT) h.taken.items f.accepted.items
      (word_texts h.taken.begun ++ word_texts more)
      (sym (append_assoc (spellings h.taken.items) (word_texts h.taken.begun) (word_texts more))
      ∙ ap (λ (ts : List (List ℕ)). ts ++ word_texts more)
      (sym (texts_are SIGNAL_LIMIT h.asked s.reader.parser (words_of h.before) h.taken))
      ∙ sym (map-append (λ (w : WordOnLine). w.text) (words_of h.before) more)
      ∙ ap word_texts (sym words) ∙ f.accepted.spelled)
      h.taken.allowed f.accepted.allowed

  pub heard_begins : IsHeardFurther state final heard all
  heard_begins =
      let first = initial_state SIGNAL_LIMIT in
      let (more, parts) = front in
      let is = h.taken.items in
      let from : state_after first is ≡ state = h.taken.state_is ∙ h.state_is in
      record {
        rest = heard_all (state_after first is) more;
        are = heard_so_far (Some file) left state heard s h;
        later = record {
          items = more;
          allowed = subst (λ c. AllowsAll c more) from (allowed_then first is more
              (subst (AllowsAll first) parts f.accepted.allowed));
          state_is = ap (λ c. state_after c more) (sym from) ∙ sym (state_then first is more)
              ∙ ap (state_after first) (sym parts) ∙ f.accepted.state_is;
          heard_is = ap (λ c. heard_all c more) from;
        };
        parts = f.heard_is ∙ ap (heard_all first) parts ∙ heard_after first is more
            ∙ ap (λ (hs : List HeardChange). hs ++ heard_all (state_after first is) more) (sym h.heard_is);
      }
