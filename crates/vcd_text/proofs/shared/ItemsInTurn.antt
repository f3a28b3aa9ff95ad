-- Items that are allowed in turn, the state after them, and the value that their changes give a code.
use Rattle.std.proofs.Common.{◌≡◌, ℕ, List, [], ◌∷◌, ◌++◌, refl, sym, ap, ◌∙◌, ◌&&◌, if◌then◌else◌, nat_le, arith}
use Rattle.std.specs.Prelude.{bytes_eq}
use Rattle.std.proofs.lemmas.Bool.{cases_Bool}
use Rattle.std.proofs.lemmas.List.{map-append}
use Rattle.std.proofs.lemmas.List.Elements.{filter-append}
use Rattle.vcd_core.specs.declared.bit.Bit.{Bit}
use Rattle.vcd_core.specs.Wave.{value_from}
use Rattle.vcd_core.proofs.shared.Waves.{value_from-append}
use Rattle.vcd_text.specs.declared.fault.Fault.{Fault}
use Rattle.vcd_text.specs.Words.{WordOnLine}
use Rattle.vcd_text.specs.Items.{Item, spellings}
use Rattle.vcd_text.specs.Grammar.{ParseState, Allows, AllowsAll, state_after, state_after_item, initial_state}
use Rattle.vcd_text.specs.Grammar.{word_texts, ValueChange}
use Rattle.vcd_text.specs.Faults.{WordShows, ShowsFault, fault_line}
use Rattle.vcd_text.specs.Letters.{extension}
use Rattle.vcd_text.specs.Meaning.{changes_of_code}
use Rattle.vcd_text.specs.inside.reading.Variables.{latest_value}

-- ==== items that are allowed in turn, and the state after them

-- from the state `start` the conditions of each item hold, and the state after all of them is
-- `state`
pub record Reaches (start : ParseState) (items : List Item) (state : ParseState) : Type 0 where
  pub allowed : AllowsAll start items
  pub state_is : state_after start items ≡ state

-- no item
pub reaches_none : (c : ParseState) → Reaches c [] c
reaches_none c = record { allowed = tt; state_is = refl }

-- one item in front
pub reaches_first : (c d : ParseState) (i : Item) (is : List Item) → Allows c i → Reaches (state_after_item c i) is d
    → Reaches c (i ∷ is) d
reaches_first c d i is allowed rest = record { allowed = (allowed, rest.allowed); state_is = rest.state_is }

-- one item
pub reaches_one : (c d : ParseState) (i : Item) → Allows c i → state_after_item c i ≡ d → Reaches c (i ∷ []) d
reaches_one c d i allowed state_is = record { allowed = (allowed, tt); state_is = state_is }

-- items in front and items after them
pub reaches_both : (c d e : ParseState) (xs ys : List Item) → Reaches c xs d → Reaches d ys e → Reaches c (xs ++ ys) e
reaches_both c d e [] ys prefix back = rw prefix.state_is back
reaches_both c d e (x ∷ xs) ys prefix back = reaches_first c e x (xs ++ ys) prefix.allowed.0 (reaches_both
    (state_after_item c x) d e xs ys (record { allowed = prefix.allowed.1; state_is = prefix.state_is }) back)

-- the same items between the same states
pub reaches_same : (c d e : ParseState) (is : List Item) → Reaches c is d → d ≡ e → Reaches c is e
reaches_same c d e is leads same = record { allowed = leads.allowed; state_is = leads.state_is ∙ same }

-- after the words of these items a word shows a fault, whatever follows it
pub shown_by : (limit : ℕ) (words whole begun more : List WordOnLine) (w : WordOnLine) (items : List Item)
    (c : ParseState)
    (line : ℕ) (fault : Fault) → Reaches (initial_state limit) items c → words ≡ whole ++ (begun ++ w ∷ more)
    → word_texts whole ≡ spellings items → WordShows c (word_texts begun) w.text fault
    → line ≡ fault_line c.in_body begun w → ShowsFault limit words line fault
shown_by limit words whole begun more w items c line fault leads parts spelled decided at = record {
  items = items;
  whole = whole;
  begun = begun;
  word = w;
  more = more;
  parts = parts;
  spelled = spelled;
  allowed = leads.allowed;
  decided = rw leads.state_is decided;
  at = at ∙ ap (λ c. fault_line c.in_body begun w) (sym leads.state_is);
}

-- ==== the value of a code by its latest value change

pub latest_value-append : (width : ℕ) (code : List ℕ) (t : ℕ) (before : List Bit) (rs qs : List ValueChange)
    → latest_value width code t before (rs ++ qs) ≡ latest_value width code t (latest_value width code t before rs) qs
unfolding changes_of_code
latest_value-append width code t before rs qs = grind (arith, filter-append, map-append, value_from-append)

pub value_with : (width : ℕ) (code : List ℕ) (t : ℕ) (before : List Bit) (rs : List ValueChange) (r : ValueChange)
    → latest_value width code t before (rs ++ r ∷ [])
    ≡ (if bytes_eq r.code code && nat_le r.tick t then extension width r.letters else latest_value width code t
    before rs)
unfolding changes_of_code value_from
value_with width code t before rs r = grind (arith, cases_Bool, latest_value-append)
