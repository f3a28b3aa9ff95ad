-- One more word, from the first word of the file on.
use Rattle.std.proofs.Common.{arith}
use Rattle.std.specs.Prelude.{IsFalse}
use Rattle.std.proofs.Common.{◌≡◌, ◌⊎◌, inl, inr, List, [], ◌∷◌, ◌++◌, refl, sym, ap}
use Rattle.std.proofs.Common.{◌∙◌, append_assoc}
use Rattle.std.proofs.lemmas.List.{append-nil, map-append}
use Rattle.std.specs.Prelude.{ℕ}
use Rattle.vcd_text.specs.declared.fault.Fault.{Fault}
use Rattle.vcd_text.specs.Words.{WordOnLine}
use Rattle.vcd_text.specs.Grammar.{ParseState, state_after_item}
use Rattle.vcd_text.specs.Grammar.{word_texts}
use Rattle.vcd_text.specs.Faults.{WordShows}
use Rattle.vcd_text.proofs.shared.ResultIsUnique.{passed_over}
use Rattle.vcd_text.specs.Faults.{ShowsFault, fault_line}
use Rattle.vcd_text.specs.inside.reading.OpenItems.{item_fault_line}
use Rattle.vcd_text.specs.inside.reading.Parser.{HasTakenWords, WordStep, goes_on, ends_item}
use Rattle.vcd_text.specs.inside.reading.Parser.{ParserMatches, IsBegun, RefusesWords}
use Rattle.vcd_text.specs.inside.reading.Parser.{error_at}
use Rattle.vcd_text.specs.declared.fault.Fault.TheVariants.{NoMemory}
use Rattle.vcd_text.specs.declared.reading.parser.OpenItem.{OpenItem}
use Rattle.vcd_text.specs.declared.reading.parser.OpenItem.TheVariants as items
use Rattle.vcd_text.specs.declared.reading.parser.Parser.{Parser}
use Rattle.vcd_text.proofs.shared.ItemsInTurn.{reaches_both, reaches_one, shown_by}
use Rattle.vcd_text.proofs.shared.ResultExists.{spelled_more}
use Rattle.vcd_text.specs.inside.reading.Part.{Asked}

-- words that go on with the open item, or end it
pub words_taken : (limit : ℕ) (asked later : Asked) (old new : Parser) (words_so_far words : List WordOnLine)
    (r : HasTakenWords limit asked old words_so_far) → WordStep later r.state (r.begun ++ words) new
    → HasTakenWords limit later new (words_so_far ++ words)
words_taken limit asked later old new words_so_far words r (goes_on at) = grind (arith, append_assoc)
words_taken limit asked later old new words_so_far words r (ends_item i spelled allows at) =
    let leads = reaches_both _ _ _ _ _ (record { allowed = r.allowed; state_is = r.state_is })
    (reaches_one _ _ i allows refl) in
    record {
      items = r.items ++ i ∷ [];
      whole = words_so_far ++ words;
      begun = [];
      state = state_after_item r.state i;
      parts = sym (append-nil (words_so_far ++ words));
      spelled = grind (arith, append_assoc, map-append, spelled_more);
      allowed = leads.allowed;
      state_is = leads.state_is;
      at = at;
    }

-- a fault with its line is shown; out of memory has none
error_shown : (limit : ℕ) (words : List WordOnLine) (line : ℕ) (fault : Fault)
    → (fault ≡ NoMemory) ⊎ ShowsFault limit words line fault → RefusesWords limit words (error_at line fault)
error_shown limit words line fault refused = grind arith

-- ---- lines

module _ (asked : Asked) (m : Parser) (c : ParseState) (begun : List WordOnLine) (w : WordOnLine) where
  declaring : ParserMatches asked m c → IsFalse m.in_body → w.line ≡ fault_line c.in_body begun w
  declaring agrees none = sym (ap (λ b. fault_line b begun w) (sym agrees.in_body ∙ none))

  -- the line that is shown is that of the definition
  pub line_shown : (fault : Fault) (item : OpenItem) → ParserMatches asked m c → IsBegun m begun item
      → WordShows c (word_texts begun) w.text fault
      → item_fault_line item m.line w.line ≡ fault_line c.in_body begun w
  line_shown fault items.Nothing agrees none decided = grind arith
  line_shown fault (items.Entry kind) agrees is decided = declaring agrees is.declares
  line_shown fault items.Timescale agrees is decided = declaring agrees is.declares
  line_shown fault items.Scope agrees is decided = declaring agrees is.declares
  line_shown fault items.Upscope agrees is decided = declaring agrees is.0
  line_shown fault items.Variable agrees is decided = declaring agrees is.0.declares
  line_shown fault items.SizedVariable agrees is decided = declaring agrees is.declares
  line_shown fault items.EndDefinitions agrees is decided = declaring agrees is.0
  line_shown fault items.Other agrees is decided = absurd (passed_over c is.keyword is.words w.text fault
      (rw agrees.in_body at is.other) is.no_end (rw is.spelled at decided))
  line_shown fault items.Vector agrees is decided = grind arith
  line_shown fault items.RealOrString agrees (text, is) decided = grind arith

-- the fault of a word is that of the definition, with its line, whatever follows
pub one_shown : (limit : ℕ) (asked : Asked) (old : Parser) (words_so_far more : List WordOnLine) (w : WordOnLine)
    (r : HasTakenWords limit asked old words_so_far) (fault : Fault)
    → (fault ≡ NoMemory) ⊎ WordShows r.state (word_texts r.begun) w.text fault
    → RefusesWords limit (words_so_far ++ w ∷ more) (error_at (item_fault_line old.item old.line w.line) fault)
one_shown limit asked old words_so_far more w r fault refused =
    let parts : words_so_far ++ w ∷ more ≡ r.whole ++ (r.begun ++ w ∷ more) =
    ap (λ ws. ws ++ w ∷ more) r.parts ∙ append_assoc r.whole r.begun (w ∷ more) in
    error_shown _ _ _ _ (elim refused [
      | inl memory ↦ inl memory
      | inr row ↦ inr (shown_by _ _ _ _ _ _ _ _ _ _ (record { allowed = r.allowed; state_is = r.state_is }) parts
          r.spelled row (line_shown _ _ _ _ _ _ _ r.at.0 r.at.1 row))
    ])
