-- The item that comes where one is open that stands: it goes on after the words so far, and stands.
use Rattle.std.proofs.Common.{◌≡◌, ◌∙◌, ℕ, Bool, true, false, List, [], ◌∷◌, ◌++◌, length}
use Rattle.std.proofs.Common.{refl, sym, ap, arith, append_assoc, inl, inr}
use Rattle.std.specs.Prelude.{IsTrue}
use Rattle.std.proofs.lemmas.List.{append-nil, length-append}
use Rattle.std.proofs.lemmas.Bool.{false≢true, and_right}
use Rattle.vcd_text.specs.Words.{WordOnLine}
use Rattle.vcd_text.specs.Items.{Item, spelling}
use Rattle.vcd_text.specs.Grammar.{ParseState, fits, word_texts}
use Rattle.vcd_text.specs.Faults.{GoesOn}
use Rattle.vcd_text.specs.inside.reading.OpenItems.{is_nothing}
use Rattle.vcd_text.specs.inside.reading.Part.{Asked}
use Rattle.vcd_text.specs.inside.reading.Parser.{IsBegun, ParserMatches}
use Rattle.vcd_text.specs.declared.reading.parser.Parser.{Parser}
use Rattle.vcd_text.specs.declared.reading.parser.OpenItem.{OpenItem}
use Rattle.vcd_text.specs.declared.reading.parser.OpenItem.TheVariants as items
use Rattle.vcd_text.proofs.shared.FirstItem.{first_item, before_end, one_item, one_rest}
use Rattle.vcd_text.proofs.shared.NoWordLeft.{unfinished}
use Rattle.vcd_copy.specs.Copied.{may_be_amended}
use Rattle.vcd_copy.specs.inside.Copying.{stands_open}
use Rattle.vcd_copy.proofs.pieces.OneCut.{overlap}
use Rattle.vcd_copy.proofs.copying.pieces.EndedItems.{item_of_words, entry_stands, scope_stands, other_stands}

something : (item : OpenItem) → stands_open item ≡ true → is_nothing item ≡ false
something items.Nothing stands = absurd (false≢true stands)
something (items.Entry kind) stands = refl
something items.Timescale stands = refl
something items.Scope stands = refl
something items.Upscope stands = refl
something items.Variable stands = refl
something items.SizedVariable stands = refl
something items.EndDefinitions stands = refl
something items.Other stands = refl
something items.Vector stands = refl
something items.RealOrString stands = refl

-- no whole item is the beginning of words with which another goes on
goes_past : (c : ParseState) (begun : List (List ℕ)) (next : List ℕ) (i : Item) (rest : List (List ℕ))
    → GoesOn c begun next → IsTrue (fits c i) → begun ≡ spelling i ++ rest → ⊥
goes_past c begun next i rest (j, more, fit, spelled) fits_too is =
    let all : spelling j ++ [] ≡ spelling i ++ (rest ++ next ∷ more) =
    append-nil (spelling j) ∙ spelled ∙ ap (λ ws. ws ++ next ∷ more) is
    ∙ append_assoc (spelling i) rest (next ∷ more) in
    let none = one_rest j i [] (rest ++ next ∷ more) (one_item c j i [] _ fit fits_too all) all in
    absurd (omega (arith, ap (length {A = List ℕ}) none, length-append rest (next ∷ more)))

module _ (asked : Asked) (m : Parser) (c : ParseState) (begun : List WordOnLine)
    (agrees : ParserMatches asked m c) (is : IsBegun m begun m.item) (stands : stands_open m.item ≡ true)
    (i : Item) (fit : IsTrue (fits c i)) where
  -- the item has the words so far, and more
  pub has_more_words : (later rest : List (List ℕ)) → word_texts begun ++ later ≡ spelling i ++ rest
      → (word : List ℕ) × (words : List (List ℕ)) × (spelling i ≡ word_texts begun ++ word ∷ words)
  has_more_words later rest same =
      let (some, (next, goes_on)) = unfinished asked m c begun m.item agrees is
      (and_right m.in_body (is_nothing m.item) (something m.item stands)) in
      elim (overlap (word_texts begun) (spelling i) later rest same) [
        | inl o ↦ longer next goes_on o.0 o.1
        | inr o ↦ absurd (goes_past c (word_texts begun) next i o.0 goes_on fit o.1)
      ]
    where
      longer : (next : List ℕ) → GoesOn c (word_texts begun) next → (ws : List (List ℕ))
          → spelling i ≡ word_texts begun ++ ws
          → (word : List ℕ) × (words : List (List ℕ)) × (spelling i ≡ word_texts begun ++ word ∷ words)
      longer next goes_on [] spelled = absurd (goes_past c (word_texts begun) next i [] goes_on fit
          (sym (append-nil (word_texts begun)) ∙ sym spelled ∙ sym (append-nil (spelling i))))
      longer next goes_on (w ∷ ws) spelled = (w, ws, spelled)

  -- it stands
  pub item_stands : (more : List (List ℕ)) → spelling i ≡ word_texts begun ++ more → may_be_amended i ≡ false
  item_stands more spelled = by_item m.item stands is
    where
      first : (b : Bool) (texts : List (List ℕ)) → m.in_body ≡ b → word_texts begun ≡ texts
          → may_be_amended i ≡ may_be_amended (first_item b (texts ++ more))
      first b texts here words = ap may_be_amended (sym (item_of_words c i b (texts ++ more) fit
          (sym agrees.in_body ∙ here) (spelled ∙ ap (λ ws. ws ++ more) words)))

      by_item : (item : OpenItem) → stands_open item ≡ true → IsBegun m begun item → may_be_amended i ≡ false
      by_item (items.Entry kind) stands is =
          first false _ is.declares is.spelled ∙ entry_stands kind (m.entry ++ more)
      by_item items.Timescale stands is = first false _ is.declares is.spelled
      by_item items.Scope stands is =
          first false _ is.declares is.spelled ∙ scope_stands (before_end (m.words.items ++ more))
      by_item items.Upscope stands is = first false _ is.0 is.1
      by_item items.Other stands is = first m.in_body (is.keyword ∷ is.words) refl is.spelled
          ∙ other_stands m.in_body is.keyword (is.words ++ more) is.other
      by_item items.Nothing stands is = absurd (false≢true stands)
      by_item items.Variable stands is = absurd (false≢true stands)
      by_item items.SizedVariable stands is = absurd (false≢true stands)
      by_item items.EndDefinitions stands is = absurd (false≢true stands)
      by_item items.Vector stands is = absurd (false≢true stands)
      by_item items.RealOrString stands is = absurd (false≢true stands)
