-- What is heard of the item that a word ends, by what was open before the word.
use Rattle.std.proofs.Common.{◌≡◌, ℕ, suc, ◌-◌, ◌≤◌, true, false, List, [], ◌∷◌, ◌++◌, length, refl, sym, ap}
use Rattle.std.proofs.Common.{subst, ◌∙◌, arith, codes, take, drop, get_or}
use Rattle.std.proofs.Math.Seq.{take-length}
use Rattle.std.specs.Prelude.{IsTrue, IsFalse, ◌&&◌, nat_lt}
use Rattle.std.proofs.lemmas.Bool.{and_parts, both_ways, cond-true}
use Rattle.std.proofs.lemmas.List.{append-nil, length-append}
use Rattle.vcd_text.specs.Words.{WordOnLine}
use Rattle.vcd_text.specs.Letters.{is_among, is_binary_digit}
use Rattle.vcd_text.specs.Items.{Item, entry, timescale, scope, upscope, variable, end_definitions, stamp, scalar}
use Rattle.vcd_text.specs.Items.{vector, real_or_string, dump_word, other, spelling, dump_words, is_command}
use Rattle.vcd_text.specs.Items.{header_word, end_word}
use Rattle.vcd_text.specs.Grammar.{ParseState, fits, state_after_item, variable_of, word_texts}
use Rattle.vcd_text.specs.HeardChanges.{heard_of, heard_value, heard_word}
use Rattle.vcd_text.specs.inside.reading.ChangeListener.{awaits_code, heard_at_end}
use Rattle.vcd_text.specs.inside.reading.DigitTests.{vector_prefixes, real_or_string_prefixes}
use Rattle.vcd_text.specs.inside.reading.Part.{Asked}
use Rattle.vcd_text.specs.inside.reading.Parser.{ParserMatches, IsBegun, AwaitsCode}
use Rattle.vcd_text.specs.declared.reading.parser.OpenItem.{OpenItem}
use Rattle.vcd_text.specs.declared.reading.parser.OpenItem.TheVariants as items
use Rattle.vcd_text.specs.declared.reading.parser.Parser.{Parser}
use Rattle.vcd_text.proofs.shared.FirstItem.{first_item, change_with, item_is}
use Rattle.vcd_text.proofs.shared.OneOf.{by_among, by_one_of}

-- ---- the parts of a word

rest_of : (bs : List ℕ) → take (suc (length bs) - 1) bs ≡ bs
rest_of bs = ap (λ n. take n bs) {y = length bs} (omega arith) ∙ take-length bs

pub scalar_parts : (s : ParseState) (first text : List ℕ) → 1 ≤ length text → is_binary_digit (get_or text 0 0) ≡ true
    → heard_value s (take (length text - 1) (drop 1 text)) (take 1 text)
    (variable_of s (take (length text - 1) (drop 1 text))) ≡ heard_at_end items.Nothing s first text
scalar_parts s first [] some is = absurd (omega arith)
scalar_parts s first (b ∷ bs) some is =
    ap (λ code. heard_value s code (b ∷ []) (variable_of s code)) (rest_of bs) ∙ sym (cond-true _ _ _ is)

pub vector_parts : (s : ParseState) (first code : List ℕ) → 1 ≤ length first
    → heard_value s code (take (length first - 1) (drop 1 first)) (variable_of s code)
    ≡ heard_at_end items.Vector s first code
vector_parts s [] code some = absurd (omega arith)
vector_parts s (b ∷ bs) code some = ap (λ digits. heard_value s code digits (variable_of s code)) (rest_of bs)

-- ---- items of one word

longer : (w v : List ℕ) (ws vs rest : List (List ℕ)) → w ∷ ws ++ v ∷ vs ≡ rest → length rest ≡ 1 → ⊥
longer w v ws vs rest is one = omega (arith, one, ap length (sym is), length-append (w ∷ ws) (v ∷ vs))

-- a word that is an item by itself
one_word : (c : ParseState) (i : Item) (first text : List ℕ) → IsTrue (fits c i) → spelling i ≡ text ∷ []
    → heard_of c i ≡ heard_at_end items.Nothing (state_after_item c i) first text
one_word c (scalar digit code) first text fit spelled =
    let is : digit ∷ code ≡ text = cc spelled in
    let parts = and_parts c.in_body (is_binary_digit digit && nat_lt 0 (length code)) fit in
    let one = (and_parts (is_binary_digit digit) (nat_lt 0 (length code)) parts.1).0 in
    subst (λ t. heard_of c (scalar digit code)
    ≡ heard_at_end items.Nothing (state_after_item c (scalar digit code)) first t) is (rw one refl)
one_word c (stamp digits) first text fit spelled =
    let is : 35 ∷ digits ≡ text = cc spelled in
    subst (λ t. [] ≡ heard_at_end items.Nothing (state_after_item c (stamp digits)) first t) is refl
one_word c (dump_word word) first text fit spelled =
    let is : word ≡ text = cc spelled in
    subst (λ t. [] ≡ heard_at_end items.Nothing c first t) is (by_one_of (λ w. [] ≡ heard_at_end items.Nothing c first
    w) dump_words word (and_parts _ _ fit).1 (refl, (refl, (refl, (refl, (refl, tt))))))
one_word c (entry kind words) first text fit spelled =
    absurd (longer (header_word kind) end_word words [] (text ∷ []) spelled refl)
one_word c (timescale words) first text fit spelled =
    absurd (longer (codes "$timescale") end_word words [] (text ∷ []) spelled refl)
one_word c (scope kind words) first text fit spelled =
    absurd (longer (codes "$scope") end_word (kind ∷ words) [] (text ∷ []) spelled refl)
one_word c upscope first text fit spelled = absurd (cc)
one_word c (variable words) first text fit spelled =
    absurd (longer (codes "$var") end_word words [] (text ∷ []) spelled refl)
one_word c end_definitions first text fit spelled = absurd (cc)
one_word c (vector letter digits code) first text fit spelled = absurd (cc)
one_word c (real_or_string letter words code) first text fit spelled = absurd (cc)
one_word c (other word words) first text fit spelled =
    absurd (longer word end_word words [] (text ∷ []) spelled refl)

-- ---- items of more words

-- nothing is heard of a declaration
pub none_of_declarations : (c : ParseState) (i : Item) → IsTrue (fits c i) → IsFalse c.in_body → heard_of c i ≡ []
none_of_declarations c (scalar digit code) fit early = absurd (both_ways _ early (and_parts _ _ fit).0)
none_of_declarations c (vector first digits code) fit early = absurd (both_ways _ early (and_parts _ _ fit).0)
none_of_declarations c (real_or_string first text code) fit early = absurd (both_ways _ early (and_parts _ _ fit).0)
none_of_declarations c (entry kind words) fit early = refl
none_of_declarations c (timescale words) fit early = refl
none_of_declarations c (scope kind words) fit early = refl
none_of_declarations c upscope fit early = refl
none_of_declarations c (variable words) fit early = refl
none_of_declarations c end_definitions fit early = refl
none_of_declarations c (stamp digits) fit early = refl
none_of_declarations c (dump_word word) fit early = refl
none_of_declarations c (other word words) fit early = refl

-- the item is the one that its words begin with
ended_item : (c : ParseState) (i j : Item) (words : List (List ℕ)) → c.in_body ≡ true → IsTrue (fits c i)
    → spelling i ≡ words → first_item true words ≡ j → i ≡ j
ended_item c i j words in_body fit spelled is =
    sym (item_is c i [] fit) ∙ (λ k. first_item (in_body k) ((append-nil (spelling i) ∙ spelled) k)) ∙ is

vector_ends : (c : ParseState) (i : Item) (letter : ℕ) (digits first text : List ℕ) → c.in_body ≡ true
    → IsTrue (fits c i) → spelling i ≡ (letter ∷ digits) ∷ text ∷ [] → IsTrue (is_among vector_prefixes letter)
    → letter ∷ digits ≡ first → heard_of c i ≡ heard_at_end items.Vector (state_after_item c i) first text
vector_ends c i letter digits first text in_body fit spelled among is =
    let same : i ≡ vector letter digits text =
    ended_item c i (vector letter digits text) ((letter ∷ digits) ∷ text ∷ []) in_body fit spelled
    (by_among (λ b. change_with (b ∷ digits) (text ∷ []) ≡ vector b digits text) vector_prefixes letter among
    (refl, (refl, tt))) in
    subst (λ j. heard_of c j ≡ heard_at_end items.Vector (state_after_item c j) first text) (sym same)
    (subst (λ f. heard_of c (vector letter digits text)
    ≡ heard_at_end items.Vector (state_after_item c (vector letter digits text)) f text) is refl)

real_or_string_ends : (c : ParseState) (i : Item) (letter : ℕ) (value first text : List ℕ) → c.in_body ≡ true
    → IsTrue (fits c i) → spelling i ≡ (letter ∷ value) ∷ text ∷ [] → IsTrue (is_among real_or_string_prefixes letter)
    → letter ∷ value ≡ first → heard_of c i ≡ heard_at_end items.RealOrString (state_after_item c i) first text
real_or_string_ends c i letter value first text in_body fit spelled among is =
    let same : i ≡ real_or_string letter value text =
    ended_item c i (real_or_string letter value text) ((letter ∷ value) ∷ text ∷ []) in_body fit spelled
    (by_among (λ b. change_with (b ∷ value) (text ∷ []) ≡ real_or_string b value text) real_or_string_prefixes letter
    among (refl, (refl, (refl, (refl, tt))))) in
    subst (λ j. heard_of c j ≡ heard_at_end items.RealOrString (state_after_item c j) first text) (sym same)
    (ap (λ word. heard_word c text word (variable_of c text)) is)

-- no change begins as another command
no_prefix : (first : ℕ) (word : List ℕ) → IsTrue (is_among vector_prefixes first) → is_command (first ∷ word) ≡ true → ⊥
no_prefix first word among is =
    both_ways _ (by_among (λ b. is_command (b ∷ word) ≡ false) vector_prefixes first among (refl, (refl, tt))) is

no_letter : (first : ℕ) (word : List ℕ) → IsTrue (is_among real_or_string_prefixes first)
    → is_command (first ∷ word) ≡ true → ⊥
no_letter first word among is = both_ways _ (by_among (λ b. is_command (b ∷ word) ≡ false) real_or_string_prefixes first
    among (refl, (refl, (refl, (refl, tt))))) is

none_of_other : (c : ParseState) (i : Item) (keyword word : List ℕ) (words : List (List ℕ)) → IsTrue (fits c i)
    → spelling i ≡ keyword ∷ (words ++ word ∷ []) → is_command keyword ≡ true → heard_of c i ≡ []
none_of_other c (scalar digit code) keyword word words fit spelled is =
    absurd (longer keyword word words [] _ (sym spelled) refl)
none_of_other c (vector first digits code) keyword word words fit spelled is =
    let same : first ∷ digits ≡ keyword = cc spelled in
    absurd (no_prefix first digits (and_parts _ _ fit).1 (ap is_command same ∙ is))
none_of_other c (real_or_string first text code) keyword word words fit spelled is =
    let same : first ∷ text ≡ keyword = cc spelled in
    absurd (no_letter first text (and_parts _ _ fit).1 (ap is_command same ∙ is))
none_of_other c (entry kind ws) keyword word words fit spelled is = refl
none_of_other c (timescale ws) keyword word words fit spelled is = refl
none_of_other c (scope kind ws) keyword word words fit spelled is = refl
none_of_other c upscope keyword word words fit spelled is = refl
none_of_other c (variable ws) keyword word words fit spelled is = refl
none_of_other c end_definitions keyword word words fit spelled is = refl
none_of_other c (stamp digits) keyword word words fit spelled is = refl
none_of_other c (dump_word w) keyword word words fit spelled is = refl
none_of_other c (other w ws) keyword word words fit spelled is = refl

-- ---- any item

module _ (asked : Asked) (m : Parser) (c : ParseState) (begun : List WordOnLine) (i : Item) (first text : List ℕ)
    (agrees : ParserMatches asked m c) (fit : IsTrue (fits c i))
    (spelled : spelling i ≡ word_texts begun ++ text ∷ []) where
  early : (item : OpenItem) → IsFalse m.in_body → heard_of c i ≡ []
  early item declares = none_of_declarations c i fit (sym agrees.in_body ∙ declares)

  change_in_body : (letters value : List ℕ) → AwaitsCode m begun letters value → c.in_body ≡ true
  change_in_body letters value b = sym agrees.in_body ∙ b.in_body

  change_texts : (letters value : List ℕ) (b : AwaitsCode m begun letters value)
      → word_texts begun ≡ (b.letter ∷ value) ∷ []
  change_texts letters value b = ap word_texts b.is ∙ ap (λ t. t ∷ []) b.spelled

  -- the item that a word ends is heard by what was open before
  pub end_is_heard : (item : OpenItem) → IsBegun m begun item
      → (IsTrue (awaits_code item) → word_texts begun ≡ first ∷ [])
      → heard_of c i ≡ heard_at_end item (state_after_item c i) first text
  end_is_heard items.Nothing none kept =
      one_word c i first text fit (spelled ∙ ap (λ ws. word_texts ws ++ text ∷ []) none)
  end_is_heard items.Vector b kept =
      let texts = change_texts vector_prefixes m.digits.items b in
      let is : b.letter ∷ m.digits.items ≡ first = let both = sym texts ∙ kept refl in cc both in
      vector_ends c i b.letter m.digits.items first text (change_in_body _ _ b) fit
      (spelled ∙ ap (λ ws. ws ++ text ∷ []) texts) b.among is
  end_is_heard items.RealOrString (value, b) kept =
      let texts = change_texts real_or_string_prefixes value b in
      let is : b.letter ∷ value ≡ first = let both = sym texts ∙ kept refl in cc both in
      real_or_string_ends c i b.letter value first text (change_in_body _ _ b) fit
      (spelled ∙ ap (λ ws. ws ++ text ∷ []) texts) b.among is
  end_is_heard items.Other is kept =
      none_of_other c i is.keyword text is.words fit (spelled ∙ ap (λ ws. ws ++ text ∷ []) is.spelled)
      (and_parts _ _ (and_parts _ _ (and_parts _ _ is.other).0).0).0
  end_is_heard (items.Entry kind) is kept = early (items.Entry kind) is.declares
  end_is_heard items.Timescale is kept = early items.Timescale is.declares
  end_is_heard items.Scope is kept = early items.Scope is.declares
  end_is_heard items.Upscope is kept = early items.Upscope is.0
  end_is_heard items.Variable is kept = early items.Variable is.0.declares
  end_is_heard items.SizedVariable is kept = early items.SizedVariable is.declares
  end_is_heard items.EndDefinitions is kept = early items.EndDefinitions is.0
