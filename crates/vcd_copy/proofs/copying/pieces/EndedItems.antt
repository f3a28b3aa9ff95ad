-- The item that a word ends, by what was open before it.
use Rattle.std.proofs.Common.{◌≡◌, ◌∙◌, ◌==◌, ℕ, Bool, true, false, not, ◌&&◌, List, [], ◌∷◌, ◌++◌, length}
use Rattle.std.proofs.Common.{map, refl, sym, ap, subst, inl, inr}
use Rattle.std.specs.Prelude.{Option, Some, None, MatchOption, IsTrue}
use Rattle.std.proofs.lemmas.List.{append-nil, map-append}
use Rattle.std.proofs.lemmas.Bool.{and_parts, not-true, cases_Bool, eqb-true, false≢true}
use Rattle.vcd_core.specs.Word.{is_one_of}
use Rattle.vcd_core.specs.declared.capture.HeaderKind.{HeaderKind}
use Rattle.vcd_core.specs.declared.capture.HeaderKind.TheVariants.{Date, Version, Comment}
use Rattle.vcd_core.specs.declared.capture.Timescale.{Timescale}
use Rattle.vcd_text.specs.Words.{WordOnLine}
use Rattle.vcd_text.specs.Letters.{is_binary_digit, is_among}
use Rattle.vcd_text.specs.Items.{Item, variable, end_definitions, stamp, scalar, vector, real_or_string, entry}
use Rattle.vcd_text.specs.Items.{timescale, scope, upscope, dump_word, other, spelling, dump_words, header_word}
use Rattle.vcd_text.specs.Items.{is_other, end_word, begins_section, declaration_words}
use Rattle.vcd_text.specs.Grammar.{ParseState, fits, Allows, word_texts, state_after_item}
use Rattle.vcd_copy.specs.Copied.{may_be_amended, is_comment_or_other, Shows, value_code}
use Rattle.vcd_copy.specs.Copied.{real_or_string_code}
use Rattle.vcd_copy.specs.inside.Copying.{shown_item, shown_word, stands_open, code_in, code_after_digit}
use Rattle.vcd_copy.specs.inside.Copying.{is_open_comment_or_other}
use Rattle.vcd_text.specs.inside.reading.DigitTests.{vector_prefixes, real_or_string_prefixes}
use Rattle.vcd_text.specs.inside.reading.Part.{Asked}
use Rattle.vcd_text.specs.inside.reading.Parser.{IsBegun, ParserMatches}
use Rattle.vcd_copy.specs.declared.copying.amender.AmendableItem.TheVariants as shown
use Rattle.vcd_text.specs.declared.reading.parser.Parser.{Parser}
use Rattle.vcd_text.specs.declared.reading.parser.OpenItem.{OpenItem}
use Rattle.vcd_text.specs.declared.reading.parser.OpenItem.TheVariants as items
use Rattle.vcd_text.proofs.shared.OneOf.{by_among, by_one_of}
use Rattle.vcd_text.proofs.shared.FirstItem.{first_item, item_is, scope_of, before_end}

-- the item of words is the first item of them
pub item_of_words : (c : ParseState) (i : Item) (b : Bool) (ws : List (List ℕ)) → IsTrue (fits c i) → c.in_body ≡ b
    → spelling i ≡ ws → first_item b ws ≡ i
item_of_words c i b ws f here spelled = ap (λ t. first_item t ws) (sym here) ∙ ap (first_item c.in_body) (sym spelled
    ∙ sym (append-nil (spelling i))) ∙ item_is c i [] f

pub entry_stands : (kind : HeaderKind) (ws : List (List ℕ)) → may_be_amended (first_item false
    (header_word kind ∷ ws)) ≡ false
entry_stands Date ws = refl
entry_stands Version ws = refl
entry_stands Comment ws = refl

pub scope_stands : (ws : List (List ℕ)) → may_be_amended (scope_of ws) ≡ false
scope_stands [] = refl
scope_stands (w ∷ ws) = refl

vector_has : (first : ℕ) (digits code : List ℕ) → IsTrue (is_among vector_prefixes first)
    → value_code (first_item true ((first ∷ digits) ∷ code ∷ [])) ≡ Some code
vector_has first digits code among = by_among (λ b. value_code (first_item true
    ((b ∷ digits) ∷ code ∷ [])) ≡ Some code)
    vector_prefixes first among (refl, (refl, tt))

real_or_string_has : (first : ℕ) (digits code : List ℕ) → IsTrue (is_among real_or_string_prefixes first)
    → real_or_string_code (first_item true ((first ∷ digits) ∷ code ∷ [])) ≡ Some code
real_or_string_has first digits code among = by_among (λ b. real_or_string_code (first_item true
    ((b ∷ digits) ∷ code ∷ []))
    ≡ Some code) real_or_string_prefixes first among (refl, (refl, (refl, (refl, tt))))

-- the item is shown so, or stands
abbrev pub IsShownAs : ParseState → OpenItem → (text : List ℕ) → (tick depth : ℕ) → Option Timescale → Item → Type 0
IsShownAs c item text tick depth given i = MatchOption (shown_item item text tick depth given)
    (may_be_amended i ≡ false) (λ x. Shows c x (code_in item text) i)

-- ---- an item of one word

scalar_shown : (digit : ℕ) (code : List ℕ) (tick : ℕ) → is_binary_digit digit ≡ true
    → shown_word (digit ∷ code) tick ≡ Some shown.Value
scalar_shown digit code tick is = elim (cases_Bool (digit == 35)) [
  | inl same ↦ let never : is_binary_digit 35 ≡ true = rw (eqb-true digit 35 same) at is in absurd (false≢true never)
  | inr differs ↦ elim (cases_Bool (digit == 36)) [
    | inl same ↦ let never : is_binary_digit 36 ≡ true = rw (eqb-true digit 36 same) at is in absurd (false≢true never)
    | inr none ↦ rw (differs, none) refl
  ]
]

dump_shown : (word : List ℕ) (tick : ℕ) → IsTrue (is_one_of dump_words word) → shown_word word tick ≡ None
dump_shown word tick one =
    by_one_of (λ w. shown_word w tick ≡ None) dump_words word one (refl, (refl, (refl, (refl, (refl, tt)))))

two_at_least : (words : List (List ℕ)) (x text : List ℕ) → x ∷ (words ++ end_word ∷ []) ≡ text ∷ [] → ⊥
two_at_least [] x text is = cc
two_at_least (w ∷ ws) x text is = cc

pub one_word : (c : ParseState) (i : Item) (text : List ℕ) (tick : ℕ) → Allows c i → spelling i ≡ text ∷ []
    → tick ≡ (state_after_item c i).tick → MatchOption (shown_word text tick) (may_be_amended i ≡ false)
    (λ x. Shows c x (code_after_digit text) i)
one_word c (stamp digits) text tick allows spelled at =
    let is : 35 ∷ digits ≡ text = cc in subst (λ text. MatchOption (shown_word text tick) (may_be_amended (stamp digits)
    ≡ false) (λ x. Shows c x (code_after_digit text) (stamp digits))) is (digits, refl, at)
one_word c (scalar digit code) text tick allows spelled at =
    let is : digit ∷ code ≡ text = cc in
    let binary = (and_parts _ _ (and_parts _ _ allows.0).1).0 in
    subst (λ text. MatchOption (shown_word text tick) (may_be_amended (scalar digit code) ≡ false)
    (λ x. Shows c x (code_after_digit text) (scalar digit code))) is
    (rw (scalar_shown digit code tick binary) refl)
one_word c (dump_word word) text tick allows spelled at =
    let is : word ≡ text = cc in
    subst (λ text. MatchOption (shown_word text tick) (may_be_amended (dump_word word) ≡ false)
    (λ x. Shows c x (code_after_digit text) (dump_word word))) is
    (rw (dump_shown word tick (and_parts c.in_body (is_one_of dump_words word) allows.0).1) refl)
one_word c (entry kind words) text tick allows spelled at = absurd (two_at_least words _ text spelled)
one_word c (timescale words) text tick allows spelled at = absurd (two_at_least words _ text spelled)
one_word c (scope kind words) text tick allows spelled at = absurd (two_at_least (kind ∷ words) _ text spelled)
one_word c upscope text tick allows spelled at = absurd (two_at_least [] _ text spelled)
one_word c (variable words) text tick allows spelled at = absurd (two_at_least words _ text spelled)
one_word c end_definitions text tick allows spelled at = absurd (two_at_least [] _ text spelled)
one_word c (vector first digits code) text tick allows spelled at = absurd (cc)
one_word c (real_or_string first digits code) text tick allows spelled at = absurd (cc)
one_word c (other word words) text tick allows spelled at = absurd (two_at_least words _ text spelled)

-- ---- an item of several words

-- another command is the first item of its words
abbrev IsOther : Item → Type 0
IsOther i = (word : List ℕ) × (words : List (List ℕ)) × (i ≡ other word words)

other_early : (w : List ℕ) (ws : List (List ℕ)) → is_other false w ≡ true → IsOther (first_item false (w ∷ ws))
other_early w ws is =
    let (both, no_header) = and_parts (begins_section w && not (is_one_of declaration_words w))
    (not (is_one_of (map header_word (Date ∷ Version ∷ Comment ∷ [])) w)) is in
    let (section, no_declaration) = and_parts (begins_section w) (not (is_one_of declaration_words w)) both in
    rw (
      not-true (is_one_of declaration_words w) no_declaration,
      not-true (is_one_of (map header_word (Date ∷ Version ∷ Comment ∷ [])) w) no_header,
    ) (w, before_end ws, refl)

other_late : (w : List ℕ) (ws : List (List ℕ)) → is_other true w ≡ true → IsOther (first_item true (w ∷ ws))
other_late [] ws is = absurd (false≢true is)
other_late (b ∷ bs) ws is =
    let (both, rest) = and_parts (begins_section (b ∷ bs) && not (is_one_of declaration_words (b ∷ bs))) true is in
    let (section, no_declaration) = and_parts (begins_section (b ∷ bs)) (not (is_one_of declaration_words
    (b ∷ bs))) both
    in
    let (command, no_dump) = and_parts (b == 36) (not (is_one_of dump_words (b ∷ bs))) section in
    let e : b ≡ 36 = eqb-true b 36 command in
    let no : is_one_of dump_words (36 ∷ bs) ≡ false = rw e at (not-true (is_one_of dump_words (b ∷ bs)) no_dump) in
    rw e (rw no (36 ∷ bs, before_end ws, refl))

other_is : (b : Bool) (w : List ℕ) (ws : List (List ℕ)) → is_other b w ≡ true → IsOther (first_item b (w ∷ ws))
other_is false w ws is = other_early w ws is
other_is true w ws is = other_late w ws is

pub other_stands : (b : Bool) (w : List ℕ) (ws : List (List ℕ)) → is_other b w ≡ true
    → may_be_amended (first_item b (w ∷ ws)) ≡ false
other_stands b w ws is = ap may_be_amended (other_is b w ws is).2

other_free : (b : Bool) (w : List ℕ) (ws : List (List ℕ)) → is_other b w ≡ true
    → true ≡ is_comment_or_other (first_item b (w ∷ ws))
other_free b w ws is = ap is_comment_or_other (sym (other_is b w ws is).2)

-- ---- comments and other commands

entry_free : (kind : HeaderKind) (ws : List (List ℕ)) → is_open_comment_or_other (items.Entry kind)
    ≡ is_comment_or_other (first_item false (header_word kind ∷ ws))
entry_free Date ws = refl
entry_free Version ws = refl
entry_free Comment ws = refl

scope_not_free : (ws : List (List ℕ)) → false ≡ is_comment_or_other (scope_of ws)
scope_not_free [] = refl
scope_not_free (w ∷ ws) = refl

word_not_free : (i : Item) (text : List ℕ) → spelling i ≡ text ∷ [] → false ≡ is_comment_or_other i
word_not_free (stamp digits) text spelled = refl
word_not_free (scalar digit code) text spelled = refl
word_not_free (dump_word word) text spelled = refl
word_not_free (entry kind words) text spelled = absurd (two_at_least words _ text spelled)
word_not_free (timescale words) text spelled = refl
word_not_free (scope kind words) text spelled = refl
word_not_free upscope text spelled = refl
word_not_free (variable words) text spelled = refl
word_not_free end_definitions text spelled = refl
word_not_free (vector first digits code) text spelled = refl
word_not_free (real_or_string first digits code) text spelled = refl
word_not_free (other word words) text spelled = absurd (two_at_least words _ text spelled)

value_not_free : (i : Item) (code : List ℕ) → value_code i ≡ Some code → false ≡ is_comment_or_other i
value_not_free (scalar digit own) code is = refl
value_not_free (vector first digits own) code is = refl
value_not_free (entry kind words) code is = absurd (cc)
value_not_free (timescale words) code is = refl
value_not_free (scope kind words) code is = refl
value_not_free upscope code is = refl
value_not_free (variable words) code is = refl
value_not_free end_definitions code is = refl
value_not_free (stamp digits) code is = refl
value_not_free (real_or_string first text own) code is = refl
value_not_free (dump_word word) code is = refl
value_not_free (other word words) code is = absurd (cc)

real_or_string_not_free : (i : Item) (code : List ℕ) → real_or_string_code i ≡ Some code
    → false ≡ is_comment_or_other i
real_or_string_not_free (real_or_string first text own) code is = refl
real_or_string_not_free (scalar digit own) code is = refl
real_or_string_not_free (vector first digits own) code is = refl
real_or_string_not_free (entry kind words) code is = absurd (cc)
real_or_string_not_free (timescale words) code is = refl
real_or_string_not_free (scope kind words) code is = refl
real_or_string_not_free upscope code is = refl
real_or_string_not_free (variable words) code is = refl
real_or_string_not_free end_definitions code is = refl
real_or_string_not_free (stamp digits) code is = refl
real_or_string_not_free (dump_word word) code is = refl
real_or_string_not_free (other word words) code is = absurd (cc)

module _ (asked : Asked) (m : Parser) (c : ParseState) (begun : List WordOnLine) (w : WordOnLine) (i : Item)
    (agrees : ParserMatches asked m c) (allows : Allows c i)
    (spelled : spelling i ≡ word_texts (begun ++ w ∷ [])) where
  -- the item, by the words before this one
  is_item : (b : Bool) (texts : List (List ℕ)) → m.in_body ≡ b → word_texts begun ≡ texts
      → i ≡ first_item b (texts ++ w.text ∷ [])
  is_item b texts here words = sym (item_of_words c i b (texts ++ w.text ∷ []) allows.0 (sym agrees.in_body ∙ here)
      (spelled ∙ map-append (λ w. w.text) begun (w ∷ []) ∙ ap (λ ws. ws ++ w.text ∷ []) words))

  free : {j : Item} → i ≡ j → is_comment_or_other j ≡ is_comment_or_other i
  free same = ap is_comment_or_other (sym same)

  pub free_if : (item : OpenItem) → IsBegun m begun item → is_open_comment_or_other item ≡ is_comment_or_other i
  free_if items.Nothing is = word_not_free i w.text (spelled ∙ ap (λ ws. word_texts (ws ++ w ∷ [])) is)
  free_if (items.Entry kind) is = entry_free kind (m.entry ++ w.text ∷ [])
      ∙ free (is_item false _ is.declares is.spelled)
  free_if items.Timescale is = free (is_item false _ is.declares is.spelled)
  free_if items.Scope is = scope_not_free (before_end (m.words.items ++ w.text ∷ []))
      ∙ free (is_item false _ is.declares is.spelled)
  free_if items.Upscope is = free (is_item false _ is.0 is.1)
  free_if items.Variable is = free (is_item false _ is.0.declares is.0.spelled)
  free_if items.SizedVariable is = free (is_item false _ is.declares is.spelled)
  free_if items.EndDefinitions is = free (is_item false _ is.0 is.1)
  free_if items.Other is = other_free m.in_body is.keyword (is.words ++ w.text ∷ []) is.other
      ∙ free (is_item m.in_body (is.keyword ∷ is.words) refl is.spelled)
  free_if items.Vector is = value_not_free i w.text
      (ap value_code (is_item true _ is.in_body (ap word_texts is.is ∙ ap (λ t. t ∷ []) is.spelled))
      ∙ vector_has is.letter _ w.text is.among)
  free_if items.RealOrString (text, is) = real_or_string_not_free i w.text
      (ap real_or_string_code (is_item true _ is.in_body (ap word_texts is.is ∙ ap (λ t. t ∷ []) is.spelled))
      ∙ real_or_string_has is.letter _ w.text is.among)

-- ---- what is shown of it

module _ (asked : Asked) (m : Parser) (c : ParseState) (begun : List WordOnLine) (w : WordOnLine) (i : Item)
    (tick depth : ℕ) (given : Option Timescale) (agrees : ParserMatches asked m c) (allows : Allows c i)
    (spelled : spelling i ≡ word_texts (begun ++ w ∷ [])) (at : tick ≡ (state_after_item c i).tick)
    (count : depth ≡ length (state_after_item c i).scopes) (same : given ≡ (state_after_item c i).timescale) where
  is_first : (b : Bool) (texts : List (List ℕ)) → m.in_body ≡ b → word_texts begun ≡ texts
      → i ≡ first_item b (texts ++ w.text ∷ [])
  is_first = is_item asked m c begun w i agrees allows spelled

  pub ended : (item : OpenItem) → IsBegun m begun item → IsShownAs c item w.text tick depth given i
  ended items.Nothing is = one_word c i w.text tick allows (spelled ∙ ap (λ ws. word_texts (ws ++ w ∷ [])) is) at
  ended (items.Entry kind) is = ap may_be_amended (is_first false _ is.declares is.spelled)
      ∙ entry_stands kind (m.entry ++ w.text ∷ [])
  ended items.Timescale is = ap may_be_amended (is_first false _ is.declares is.spelled)
  ended items.Scope is = ap may_be_amended (is_first false _ is.declares is.spelled)
      ∙ scope_stands (before_end (m.words.items ++ w.text ∷ []))
  ended items.Upscope is = ap may_be_amended (is_first false _ is.0 is.1)
  ended items.Variable is = (_, is_first false _ is.0.declares is.0.spelled)
  ended items.SizedVariable is = (_, is_first false _ is.declares is.spelled)
  ended items.EndDefinitions is =
      let e : i ≡ end_definitions = is_first false _ is.0 is.1 in (
        e,
        count ∙ ap (λ i. length (state_after_item c i).scopes) e,
        same ∙ ap (λ i. (state_after_item c i).timescale) e,
      )
  ended items.Other is =
      ap may_be_amended (is_first m.in_body (is.keyword ∷ is.words) refl is.spelled)
      ∙ other_stands m.in_body is.keyword (is.words ++ w.text ∷ []) is.other
  ended items.Vector is =
      ap value_code (is_first true _ is.in_body (ap word_texts is.is ∙ ap (λ t. t ∷ []) is.spelled))
      ∙ vector_has is.letter _ w.text is.among
  ended items.RealOrString (text, is) =
      ap real_or_string_code (is_first true _ is.in_body (ap word_texts is.is ∙ ap (λ t. t ∷ []) is.spelled))
      ∙ real_or_string_has is.letter _ w.text is.among

-- ---- what is open stands or not by its first word

abbrev pub stands_at : (in_body : Bool) → List ℕ → Bool
stands_at in_body first = not (may_be_amended (first_item in_body (first ∷ [])))

entry_at : (kind : HeaderKind) → stands_at false (header_word kind) ≡ true
entry_at Date = refl
entry_at Version = refl
entry_at Comment = refl

by_first : (first keyword : List ℕ) (rest words texts : List (List ℕ)) (b in_body stands : Bool) → texts ≡ first ∷ rest
    → texts ≡ keyword ∷ words → in_body ≡ b → stands_at b keyword ≡ stands → stands_at in_body first ≡ stands
by_first first keyword rest words texts b in_body stands is same here at =
    let e : keyword ≡ first = cc in
    rw here (subst (λ k. stands_at b k ≡ stands) e at)

vector_at : (first : ℕ) (digits : List ℕ) → IsTrue (is_among vector_prefixes first)
    → stands_at true (first ∷ digits) ≡ false
vector_at first digits among = by_among (λ b. stands_at true (b ∷ digits) ≡ false) vector_prefixes first among (
  refl,
  (refl, tt),
)

real_or_string_at : (first : ℕ) (digits : List ℕ) → IsTrue (is_among real_or_string_prefixes first)
    → stands_at true (first ∷ digits) ≡ false
real_or_string_at first digits among = by_among (λ b. stands_at true (b ∷ digits) ≡ false) real_or_string_prefixes first
    among (refl, (refl, (refl, (refl, tt))))

pub opened_as : (m : Parser) (begun : List WordOnLine) (first : List ℕ) (rest : List (List ℕ)) (item : OpenItem)
    → IsBegun m begun item → word_texts begun ≡ first ∷ rest → stands_at m.in_body first ≡ stands_open item
opened_as m begun first rest items.Nothing is words = let never : ◌≡◌ {A = List (List ℕ)} [] (first ∷ rest) = sym (ap
    word_texts is) ∙ words in absurd (cc)
opened_as m begun first rest (items.Entry kind) is words = by_first first _ rest _ _ false _ true words is.spelled
    is.declares (entry_at kind)
opened_as m begun first rest items.Timescale is words = by_first first _ rest _ _ false _ true words is.spelled
    is.declares
    refl
opened_as m begun first rest items.Scope is words = by_first first _ rest _ _ false _ true words is.spelled is.declares
    refl
opened_as m begun first rest items.Upscope is words = by_first first _ rest _ _ false _ true words is.1 is.0 refl
opened_as m begun first rest items.Variable is words = by_first first _ rest _ _ false _ false words is.0.spelled
    is.0.declares
    refl
opened_as m begun first rest items.SizedVariable is words = by_first first _ rest _ _ false _ false words is.spelled
    is.declares refl
opened_as m begun first rest items.EndDefinitions is words = by_first first _ rest _ _ false _ false words is.1 is.0
    refl
opened_as m begun first rest items.Other is words = by_first first is.keyword rest is.words (word_texts begun) m.in_body
    m.in_body true words is.spelled refl (ap not (other_stands m.in_body is.keyword [] is.other))
opened_as m begun first rest items.Vector is words = by_first first _ rest [] _ true _ false words
    (ap word_texts is.is ∙ ap
    (λ t. t ∷ []) is.spelled) is.in_body (vector_at is.letter _ is.among)
opened_as m begun first rest items.RealOrString (text, is) words = by_first first _ rest [] _ true _ false words (ap
    word_texts is.is ∙ ap (λ t. t ∷ []) is.spelled) is.in_body (real_or_string_at is.letter _ is.among)

-- after a whole item nothing is open
pub nothing_open : (m : Parser) (item : OpenItem) → IsBegun m [] item → item ≡ items.Nothing
nothing_open m items.Nothing is = refl
nothing_open m (items.Entry kind) is = let never : ◌≡◌ {A = List (List ℕ)} [] _ = is.spelled in absurd (cc)
nothing_open m items.Timescale is = let never : ◌≡◌ {A = List (List ℕ)} [] _ = is.spelled in absurd (cc)
nothing_open m items.Scope is = let never : ◌≡◌ {A = List (List ℕ)} [] _ = is.spelled in absurd (cc)
nothing_open m items.Upscope is = let never : ◌≡◌ {A = List (List ℕ)} [] _ = is.1 in absurd (cc)
nothing_open m items.Variable is = let never : ◌≡◌ {A = List (List ℕ)} [] _ = is.0.spelled in absurd (cc)
nothing_open m items.SizedVariable is = let never : ◌≡◌ {A = List (List ℕ)} [] _ = is.spelled in absurd (cc)
nothing_open m items.EndDefinitions is = let never : ◌≡◌ {A = List (List ℕ)} [] _ = is.1 in absurd (cc)
nothing_open m items.Other is = let never : ◌≡◌ {A = List (List ℕ)} [] _ = is.spelled in absurd (cc)
nothing_open m items.Vector is = let never : ◌≡◌ {A = List WordOnLine} [] _ = is.is in absurd (cc)
nothing_open m items.RealOrString (text, is) = let never : ◌≡◌ {A = List WordOnLine} [] _ = is.is in absurd (cc)

-- a word that has begun an item is open
pub something_open : (m : Parser) (begun : List WordOnLine) (w : WordOnLine) (item : OpenItem)
    → IsBegun m (begun ++ w ∷ []) item → item ≡ items.Nothing → ⊥
something_open m [] w items.Nothing is none = let never : ◌≡◌ {A = List WordOnLine} (w ∷ []) [] = is in cc
something_open m (v ∷ vs) w items.Nothing is none = let never : ◌≡◌ {A = List WordOnLine} (v ∷
    (vs ++ w ∷ [])) [] = is in cc
something_open m begun w (items.Entry kind) is none = cc
something_open m begun w items.Timescale is none = cc
something_open m begun w items.Scope is none = cc
something_open m begun w items.Upscope is none = cc
something_open m begun w items.Variable is none = cc
something_open m begun w items.SizedVariable is none = cc
something_open m begun w items.EndDefinitions is none = cc
something_open m begun w items.Other is none = cc
something_open m begun w items.Vector is none = cc
something_open m begun w items.RealOrString is none = cc
