-- The items of the first words of a file are the first items of more words.
use Rattle.std.proofs.Common.{◌≡◌, ℕ, true, false, not, List, [], ◌∷◌, ◌++◌, length, refl, sym, ap, ◌∙◌, arith}
use Rattle.std.proofs.Common.{append_assoc, inl, inr}
use Rattle.std.specs.List.{list_all}
use Rattle.std.proofs.lemmas.Bool.{cases_Bool, and_parts, false≢true}
use Rattle.std.proofs.lemmas.List.{append-nil, length-append, map-append}
use Rattle.vcd_core.specs.Word.{is_white_space}
use Rattle.vcd_text.specs.Words.{WordOnLine, words_of, complete_words}
use Rattle.vcd_text.specs.Items.{Item, spelling, spellings}
use Rattle.vcd_text.specs.Grammar.{ParseState, AllowsAll, state_after_item, state_after, initial_state, word_texts}
use Rattle.vcd_text.specs.inside.Words.{words_from, ComesBefore}
use Rattle.vcd_text.specs.inside.reading.OpenItems.{is_nothing}
use Rattle.vcd_text.specs.inside.reading.Part.{Asked}
use Rattle.vcd_text.specs.inside.reading.Parser.{HasTakenWords, IsBegun, is_complete}
use Rattle.vcd_text.specs.declared.reading.parser.OpenItem.{OpenItem}
use Rattle.vcd_text.specs.declared.reading.parser.OpenItem.TheVariants as items
use Rattle.vcd_text.specs.declared.reading.parser.Parser.{Parser}
use Rattle.vcd_text.proofs.reading.parser.SkippedCount.{has_words}
use Rattle.vcd_text.proofs.shared.Chunks.{words_complete}
use Rattle.vcd_text.proofs.shared.FaultOfPrefix.{IsPrefix}
use Rattle.vcd_text.proofs.shared.FirstItem.{one_item, one_rest}
use Rattle.vcd_text.proofs.shared.NoWordLeft.{texts_are, unfinished}
use Rattle.vcd_text.proofs.shared.ResultIsUnique.{BeginsNone, goes_past}
use Rattle.vcd_text.proofs.shared.WordsByBytes.{words_by_bytes, complete_by_bytes}
use Rattle.vcd_text.proofs.shared.WordsInTurn.{word_part}

-- items that are the first of others
abbrev pub IsFront : (is js : List Item) → Type 0
IsFront is js = (more : List Item) × (js ≡ is ++ more)

front_of : (c : ParseState) (is js : List Item) (r s : List (List ℕ)) → spellings is ++ r ≡ spellings js ++ s
    → AllowsAll c is → AllowsAll c js → BeginsNone (state_after c js) s → IsFront is js
front_of c [] js r s e a b none = (js, refl)
front_of c (i ∷ is) [] r s e a b none =
    absurd (none i (spellings is ++ r) a.0 (sym e ∙ append_assoc (spelling i) (spellings is) r))
front_of c (i ∷ is) (j ∷ js) r s e a b none =
    let all : spelling i ++ (spellings is ++ r) ≡ spelling j ++ (spellings js ++ s) =
    sym (append_assoc (spelling i) (spellings is) r) ∙ e ∙ append_assoc (spelling j) (spellings js) s in
    let one : i ≡ j = one_item c i j _ _ a.0.0 b.0.0 all in
    let rest = front_of (state_after_item c j) is js r s (one_rest i j _ _ one all)
    (rw one at a.1) b.1 none in
    (rest.0, λ k. sym one k ∷ rest.1 k)

no_word_begins : (c : ParseState) (i : Item) (rest : List (List ℕ)) → [] ≡ spelling i ++ rest → ⊥
no_word_begins c i rest e = omega (arith, ap length e, length-append (spelling i) rest, has_words i)

-- no word is left of an item that is not open
pub none_left : (m : Parser) (begun : List WordOnLine) → is_nothing m.item ≡ true → IsBegun m begun m.item
    → word_texts begun ≡ []
none_left m begun closed is = by_item m.item closed is
  where
    by_item : (item : OpenItem) → is_nothing item ≡ true → IsBegun m begun item → word_texts begun ≡ []
    by_item items.Nothing closed none = ap word_texts none
    by_item (items.Entry kind) closed is = absurd (false≢true closed)
    by_item items.Timescale closed is = absurd (false≢true closed)
    by_item items.Scope closed is = absurd (false≢true closed)
    by_item items.Upscope closed is = absurd (false≢true closed)
    by_item items.Variable closed is = absurd (false≢true closed)
    by_item items.SizedVariable closed is = absurd (false≢true closed)
    by_item items.EndDefinitions closed is = absurd (false≢true closed)
    by_item items.Other closed is = absurd (false≢true closed)
    by_item items.Vector closed is = absurd (false≢true closed)
    by_item items.RealOrString closed is = absurd (false≢true closed)

pub no_items : (is : List Item) → [] ≡ spellings is → is ≡ []
no_items [] e = refl
no_items (i ∷ is) e =
    absurd (omega (arith, ap length e, length-append (spelling i) (spellings is), has_words i))

-- no item begins the words of an unfinished one
begins_none : (limit : ℕ) (asked : Asked) (m : Parser) (words : List WordOnLine) (r : HasTakenWords limit asked m words)
    → BeginsNone r.state (word_texts r.begun)
begins_none limit asked m words r i rest allows is =
    elim (cases_Bool (is_complete m)) [
      | inl complete ↦
          let closed = (and_parts m.in_body (is_nothing m.item) complete).1 in
          no_word_begins r.state i rest (sym (none_left m r.begun closed r.at.1) ∙ is)
      | inr incomplete ↦
          let due = (unfinished asked m r.state r.begun m.item r.at.0 r.at.1 incomplete).1 in
          goes_past r.state (word_texts r.begun) due.0 i rest due.1 allows.0 is
    ]

-- the items of the first words
pub items_go_on : (limit : ℕ) (before now : Asked) (old new : Parser) (words all : List WordOnLine)
    (r : HasTakenWords limit before old words) (q : HasTakenWords limit now new all)
    → IsPrefix words all → IsFront r.items q.items
items_go_on limit before now old new words all r q (more, is) =
    front_of (initial_state limit) r.items q.items (word_texts r.begun ++ word_texts more) (word_texts q.begun)
    (sym (append_assoc (spellings r.items) (word_texts r.begun) (word_texts more))
    ∙ ap (λ ts. ts ++ word_texts more) (sym (texts_are limit before old words r))
    ∙ sym (map-append (λ (w : WordOnLine). w.text) words more) ∙ ap word_texts (sym is) ∙ texts_are limit now new all q)
    r.allowed q.allowed (rw (sym q.state_is) at (begins_none limit now new all q))

-- the complete words are those before the last white space
pub before_is_complete : (bytes before word : List ℕ) (line_feeds : ℕ) → bytes ≡ before ++ word
    → ComesBefore before line_feeds → list_all (λ b. not (is_white_space b)) word ≡ true
    → words_of before ≡ complete_words bytes
before_is_complete bytes before word line_feeds all (complete, feeds) no_space =
    words_by_bytes before ∙ sym (append-nil _) ∙ ap (λ ws. words_from true [] 1 before ++ ws) (sym (word_part _ word
    no_space)) ∙ sym (words_complete false 1 before word complete) ∙ ap (words_from false [] 1) (sym all)
    ∙ sym (complete_by_bytes bytes)
