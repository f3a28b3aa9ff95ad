-- Facts if no word is left.
use Rattle.std.proofs.Common.{◌≡◌, ℕ, Bool, true, false, ◌&&◌, List, [], ◌∷◌, ◌++◌, refl, sym}
use Rattle.std.proofs.Common.{◌∙◌, arith}
use Rattle.std.specs.Prelude.{IsTrue, IsFalse, codes}
use Rattle.std.proofs.lemmas.List.{append-nil, map-append}
use Rattle.std.proofs.lemmas.Bool.{and_parts}
use Rattle.vcd_text.specs.declared.fault.Fault.{Fault}
use Rattle.vcd_text.specs.Words.{WordOnLine}
use Rattle.vcd_text.specs.Letters.{is_among}
use Rattle.vcd_core.specs.Word.{is_one_of}
use Rattle.vcd_text.specs.Items.{spellings, header_word}
use Rattle.vcd_text.specs.inside.reading.Declarations.{header_words}
use Rattle.vcd_text.specs.Grammar.{ParseState, Accepts, word_texts}
use Rattle.vcd_text.specs.Faults.{ShowsFault}
use Rattle.vcd_text.specs.FoundFaults.{Stops, IsUnfinished}
use Rattle.vcd_text.proofs.shared.Unfinished.{declaration_due, words_due, upscope_due, variable_due, definitions_due}
use Rattle.vcd_text.proofs.shared.Unfinished.{vector_due, real_or_string_due, other_due}
use Rattle.vcd_text.specs.inside.reading.Part.{seen_state}
use Rattle.vcd_text.specs.inside.reading.OpenItems.{is_nothing}
use Rattle.vcd_text.specs.inside.reading.Parser.{HasTakenWords, ParserMatches, IsBegun, Collects}
use Rattle.vcd_text.specs.inside.reading.Parser.{AwaitsCode, is_complete}
use Rattle.vcd_text.specs.declared.reading.parser.Parser.{Parser}
use Rattle.vcd_text.specs.declared.reading.parser.OpenItem.{OpenItem}
use Rattle.vcd_text.specs.declared.reading.parser.OpenItem.TheVariants as items
use Rattle.vcd_text.proofs.reading.declarations.DeclarationWords.{so_deep, short_words}
use Rattle.vcd_text.proofs.shared.ResultIsUnique.{accepted-not_refused, stopped-not_refused}
use Rattle.vcd_text.specs.inside.reading.Part.{Asked}

module _ (asked : Asked) (m : Parser) (c : ParseState) (begun : List WordOnLine) where
  collecting : (keyword : List ℕ) (words : List (List ℕ)) → ParserMatches asked m c
      → Collects m begun keyword words
      → IsTrue (is_one_of (codes "$timescale" ∷ codes "$scope" ∷ header_words) keyword)
      → IsUnfinished c (word_texts begun)
  collecting keyword words agrees is among =
      rw is.spelled (words_due c keyword words (sym agrees.in_body ∙ is.declares) among is.no_end)

  awaiting : (letters text : List ℕ) → ParserMatches asked m c → AwaitsCode m begun letters text
      → ((b : ℕ) → IsTrue c.in_body → IsTrue (is_among letters b) → IsUnfinished c ((b ∷ text) ∷ []))
      → IsUnfinished c (word_texts begun)
  awaiting letters text agrees is due = grind arith

  -- a word must follow words that are no whole file
  pub unfinished : (item : OpenItem) → ParserMatches asked m c → IsBegun m begun item
      → IsFalse (m.in_body && is_nothing item) → IsUnfinished c (word_texts begun)
  unfinished items.Nothing agrees none no_end = rw none (declaration_due c (grind arith))
  unfinished (items.Entry kind) agrees is no_end = collecting (header_word kind) m.entry agrees is (grind arith)
  unfinished items.Timescale agrees is no_end = search (arith, collecting)
  unfinished items.Scope agrees is no_end = collecting (codes "$scope") m.words.items agrees is refl
  unfinished items.Upscope agrees is no_end = rw is.1 (upscope_due c (sym agrees.in_body ∙ is.0)
      (omega (arith, so_deep m.variables (seen_state m.part c agrees.seen) agrees.variables, is.2)))
  unfinished items.Variable agrees is no_end = rw is.0.spelled (variable_due c m.words.items
      (sym agrees.in_body ∙ is.0.declares) is.0.no_end (short_words c m.words.items is.1).0)
  unfinished items.SizedVariable agrees is no_end = rw is.spelled (variable_due c (is.kind ∷ is.word ∷ is.following)
      (sym agrees.in_body ∙ is.declares) is.no_end is.number)
  unfinished items.EndDefinitions agrees is no_end = rw is.1 (definitions_due c (sym agrees.in_body ∙ is.0))
  unfinished items.Other agrees is no_end =
      rw is.spelled (other_due c is.keyword is.words (rw agrees.in_body at is.other) is.no_end)
  unfinished items.Vector agrees is no_end = search (arith, awaiting, vector_due)
  unfinished items.RealOrString agrees (text, is) no_end = search (arith, awaiting, real_or_string_due)

pub texts_are : (limit : ℕ) (asked : Asked) (m : Parser) (words : List WordOnLine)
    (r : HasTakenWords limit asked m words) → word_texts words ≡ spellings r.items ++ word_texts r.begun
texts_are limit asked m words r = grind (arith, map-append)

-- words that are no whole file end too early
pub stops : (limit : ℕ) (asked : Asked) (m : Parser) (words : List WordOnLine) →
    HasTakenWords limit asked m words → is_complete m ≡ false → Stops limit words
stops limit asked m words r incomplete = record {
  items = r.items;
  begun = word_texts r.begun;
  spelled = texts_are limit asked m words r;
  allowed = r.allowed;
  unfinished = rw r.state_is (unfinished asked m r.state r.begun m.item r.at.0 r.at.1 incomplete);
}

-- words that are a whole file are accepted
pub accepts : (limit : ℕ) (asked : Asked) (m : Parser) (words : List WordOnLine) (r : HasTakenWords limit asked m words)
    → is_complete m ≡ true → Accepts limit words r.state
accepts limit asked m words r complete = grind (arith, and_parts, texts_are limit, append-nil)

-- words that have been taken show no fault
pub no_fault : (limit : ℕ) (asked : Asked) (m : Parser) (words : List WordOnLine) → HasTakenWords limit asked m words
    → (line : ℕ) (fault : Fault) → ShowsFault limit words line fault → ⊥
no_fault limit asked m words r line fault refuses = by_test (is_complete m) refl
  where
    by_test : (b : Bool) → is_complete m ≡ b → ⊥
    by_test true complete = accepted-not_refused limit words r.state line fault
        (accepts limit asked m words r complete) refuses
    by_test false incomplete = stopped-not_refused limit words line fault (stops limit asked m words r incomplete)
        refuses
