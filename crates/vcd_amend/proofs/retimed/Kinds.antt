-- The items of a retimed file: stamps, changes, and those that are neither.
use Rattle.std.proofs.Common.{◌≡◌, ℕ, ◌∙◌, Bool, true, false, not, List, [], ◌∷◌, ◌++◌, refl, ap, sym, if◌then◌else◌}
use Rattle.std.proofs.Common.{inl, inr, ◌&&◌, ◌||◌, Option, Some, None}
use Rattle.std.specs.Prelude.{is_some, bytes_eq}
use Rattle.std.proofs.lemmas.Bool.{cases_Bool, and_parts, false≢true}
use Rattle.vcd_core.specs.Decimal.{number_of}
use Rattle.vcd_text.specs.Items.{Item, entry, timescale, scope, upscope, variable, end_definitions, stamp, scalar}
use Rattle.vcd_text.specs.Items.{vector, real_or_string, dump_word, other}
use Rattle.vcd_text.specs.Grammar.{ParseState, VariableDeclaration, ValueChange, Allows, AllowsAll, state_after_item}
use Rattle.vcd_text.specs.Grammar.{state_after, is_skipped}
use Rattle.vcd_amend.specs.AmendedItems.{stands, is_left_out}
use Rattle.vcd_copy.specs.Pieces.{Piece}
use Rattle.std.specs.List.{list_any}
use Rattle.vcd_amend.specs.Retimed.{ChangeKey, digits_key, text_key, change_key, code_of_key}
use Rattle.vcd_amend.specs.Retimed.{counts_with, held_with, is_past, has_kept_variable}
use Rattle.vcd_amend.specs.Retimed.{released_pieces, retimed_stamp, retimed_fate, pieces_in_place, retimed_pieces}
use Rattle.vcd_copy.specs.Ticks.{tick_after_item}
use Rattle.vcd_amend.specs.RetimedLaws.{is_neither}
use Rattle.vcd_amend.proofs.amended.OneCode.{same_bytes, bytes_turned, itself}

-- ---- keys

or_true : (b : Bool) → (b || true) ≡ true
or_true true = refl
or_true false = refl

-- whether two keys have one form
abbrev pub same_form : ChangeKey → ChangeKey → Bool
same_form (digits_key a) (digits_key b) = true
same_form (text_key a) (text_key b) = true
same_form a b = false

-- keys of one form have one form with the same others
same_forms : (a b x : ChangeKey) (one : Bool) → (same_form a b || one) ≡ true
    → (same_form a x || one) ≡ (same_form b x || one)
same_forms a b x true same = or_true (same_form a x) ∙ sym (or_true (same_form b x))
same_forms (digits_key a) (digits_key b) (digits_key x) false same = refl
same_forms (digits_key a) (digits_key b) (text_key x) false same = refl
same_forms (text_key a) (text_key b) (digits_key x) false same = refl
same_forms (text_key a) (text_key b) (text_key x) false same = refl
same_forms (digits_key a) (text_key b) x false same = absurd (false≢true same)
same_forms (text_key a) (digits_key b) x false same = absurd (false≢true same)

form_turned : (a b : ChangeKey) → same_form a b ≡ same_form b a
form_turned (digits_key a) (digits_key b) = refl
form_turned (digits_key a) (text_key b) = refl
form_turned (text_key a) (digits_key b) = refl
form_turned (text_key a) (text_key b) = refl

form_itself : (a : ChangeKey) → same_form a a ≡ true
form_itself (digits_key a) = refl
form_itself (text_key a) = refl

and_true : (b : Bool) → b ≡ (b && true)
and_true true = refl
and_true false = refl

module _ (is_kept : List ℕ → Bool) where
  -- whether changes with these keys count together
  abbrev pub count_together : ChangeKey → ChangeKey → Bool
  count_together a b = counts_with is_kept a (Some b)

  together_is : (a b : ChangeKey) → count_together a b
      ≡ (bytes_eq (code_of_key a) (code_of_key b) && (same_form a b || not (is_kept (code_of_key a))))
  together_is (digits_key a) (digits_key b) = and_true (bytes_eq a b)
  together_is (text_key a) (text_key b) = and_true (bytes_eq a b)
  together_is (digits_key a) (text_key b) = refl
  together_is (text_key a) (digits_key b) = refl

  pub key_itself : (a : ChangeKey) → count_together a a ≡ true
  key_itself a = together_is a a ∙ rw (itself (code_of_key a), form_itself a) refl

  -- changes that count together are of one code, and of one form if a kept variable has it
  parts : (a b : ChangeKey) → count_together a b ≡ true → (code_of_key a ≡ code_of_key b)
      × ((same_form a b || not (is_kept (code_of_key a))) ≡ true)
  parts a b same =
      let both = and_parts (bytes_eq (code_of_key a) (code_of_key b)) _ (sym (together_is a b) ∙ same) in
      (same_bytes (code_of_key a) (code_of_key b) both.0, both.1)

  pub code_together : (a b : ChangeKey) → count_together a b ≡ true → code_of_key a ≡ code_of_key b
  code_together a b same = (parts a b same).0

  turned : (a b : ChangeKey) → count_together a b ≡ count_together b a
  turned a b = together_is a b ∙ by_test ∙ sym (together_is b a)
    where
      by_test : (bytes_eq (code_of_key a) (code_of_key b) && (same_form a b || not (is_kept (code_of_key a))))
          ≡ (bytes_eq (code_of_key b) (code_of_key a) && (same_form b a || not (is_kept (code_of_key b))))
      by_test = elim (cases_Bool (bytes_eq (code_of_key a) (code_of_key b))) [
        | inl same ↦
            let code : code_of_key a ≡ code_of_key b = same_bytes (code_of_key a) (code_of_key b) same in
            let other : bytes_eq (code_of_key b) (code_of_key a) ≡ true = sym (bytes_turned (code_of_key a) (code_of_key
            b)) ∙ same in
            rw (same, other) (λ i. form_turned a b i || not (is_kept (code i)))
        | inr apart ↦
            let other : bytes_eq (code_of_key b) (code_of_key a) ≡ false = sym (bytes_turned (code_of_key a)
            (code_of_key b)) ∙ apart in
            rw (apart, other) refl
      ]

  -- and count together with the same others
  pub together_first : (a b : ChangeKey) → count_together a b ≡ true → (x : ChangeKey)
      → count_together a x ≡ count_together b x
  together_first a b same x =
      let both = parts a b same in
      together_is a x
      ∙ ap (λ n. bytes_eq (code_of_key a) (code_of_key x) && n) (same_forms a b x (not (is_kept (code_of_key a)))
      both.1) ∙ ap (λ c. bytes_eq c (code_of_key x) && (same_form b x || not (is_kept c))) both.0
      ∙ sym (together_is b x)

  pub together_second : (a b : ChangeKey) → count_together a b ≡ true → (x : ChangeKey)
      → count_together x a ≡ count_together x b
  together_second a b same x = turned x a ∙ together_first a b same x ∙ turned b x

  pub counts_first : (a b : ChangeKey) → count_together a b ≡ true → (o : Option ChangeKey)
      → counts_with is_kept a o ≡ counts_with is_kept b o
  counts_first a b same None = refl
  counts_first a b same (Some x) = together_first a b same x

-- ---- items

-- a state with another tick and other value changes
abbrev pub at : ParseState → List ValueChange → ℕ → ParseState
at s vs n = record s { tick = n; value_changes = vs }

-- a change with this key
pub record IsChange (i : Item) (key : ChangeKey) : Type 0 where
  pub is : change_key i ≡ Some key
  pub tick : (now : ℕ) → tick_after_item now i ≡ now
  pub neither : is_neither i ≡ false
  pub outcome : (c : ℕ → Bool) (s : ParseState) → retimed_fate c s i
      ≡ (if c s.tick then is_left_out else stands)
  pub past : (c : ℕ → Bool) (s : ParseState) → is_past c s i ≡ false
  pub in_body : (s : ParseState) → Allows s i → s.in_body ≡ true
  pub allows : (s t : ParseState) → t.in_body ≡ s.in_body → t.declared ≡ s.declared → Allows s i → Allows t i
  pub state : (s : ParseState) → state_after_item s i ≡ at s (state_after_item s i).value_changes s.tick

-- an item that is neither a stamp nor a change
pub record IsStill (i : Item) : Type 0 where
  pub is : change_key i ≡ None
  pub tick : (now : ℕ) → tick_after_item now i ≡ now
  pub neither : is_neither i ≡ true
  pub outcome : (c : ℕ → Bool) (s : ParseState) → retimed_fate c s i ≡ stands
  pub past : (c : ℕ → Bool) (s : ParseState) → is_past c s i ≡ false
  pub allows : (s : ParseState) (vs : List ValueChange) (n : ℕ) → Allows s i → Allows (at s vs n) i
  pub state : (s : ParseState) (vs : List ValueChange) (n : ℕ)
      → state_after_item (at s vs n) i ≡ at (state_after_item s i) vs n
  pub values : (s : ParseState) → (state_after_item s i).value_changes ≡ s.value_changes
  pub same_tick : (s : ParseState) → (state_after_item s i).tick ≡ s.tick
  pub body : (s : ParseState) → Allows s i → s.in_body ≡ true
      → ((state_after_item s i).in_body ≡ true) × ((state_after_item s i).declared ≡ s.declared)

pub data Kind (i : Item) : Type 0 where
  is_stamp : (digits : List ℕ) → i ≡ stamp digits → Kind i
  is_change : (key : ChangeKey) → IsChange i key → Kind i
  is_still : IsStill i → Kind i

-- a declaration does not stand in the body
no_body : (b c : Bool) → (not b && c) ≡ true → b ≡ true → ⊥
no_body true c fits body = false≢true fits
no_body false c fits body = false≢true body

pub kind_of : (i : Item) → Kind i
kind_of (entry kind words) = is_still (record {
  is = refl;
  tick = λ now. refl;
  neither = refl;
  outcome = λ c s. refl;
  past = λ c s. refl;
  allows = λ s vs n a. a;
  state = λ s vs n. refl;
  values = λ s. refl;
  same_tick = λ s. refl;
  body = λ s a b. (b, refl);
})
kind_of (timescale words) = is_still (record {
  is = refl;
  tick = λ now. refl;
  neither = refl;
  outcome = λ c s. refl;
  past = λ c s. refl;
  allows = λ s vs n a. a;
  state = λ s vs n. refl;
  values = λ s. refl;
  same_tick = λ s. refl;
  body = λ s a b. (b, refl);
})
kind_of (scope kind words) = is_still (record {
  is = refl;
  tick = λ now. refl;
  neither = refl;
  outcome = λ c s. refl;
  past = λ c s. refl;
  allows = λ s vs n a. a;
  state = λ s vs n. refl;
  values = λ s. refl;
  same_tick = λ s. refl;
  body = λ s a b. (b, refl);
})
kind_of upscope = is_still (record {
  is = refl;
  tick = λ now. refl;
  neither = refl;
  outcome = λ c s. refl;
  past = λ c s. refl;
  allows = λ s vs n a. a;
  state = λ s vs n. refl;
  values = λ s. refl;
  same_tick = λ s. refl;
  body = λ s a b. (b, refl);
})
kind_of (variable words) = is_still (record {
  is = refl;
  tick = λ now. refl;
  neither = refl;
  outcome = λ c s. refl;
  past = λ c s. refl;
  allows = λ s vs n a. a;
  state = λ s vs n. refl;
  values = λ s. refl;
  same_tick = λ s. refl;
  body = λ s a b. absurd (no_body s.in_body _ a.0 b);
})
kind_of end_definitions = is_still (record {
  is = refl;
  tick = λ now. refl;
  neither = refl;
  outcome = λ c s. refl;
  past = λ c s. refl;
  allows = λ s vs n a. a;
  state = λ s vs n. refl;
  values = λ s. refl;
  same_tick = λ s. refl;
  body = λ s a b. (refl, refl);
})
kind_of (stamp digits) = is_stamp digits refl
kind_of (scalar digit code) = is_change (digits_key code) (record {
  is = refl;
  tick = λ now. refl;
  neither = refl;
  outcome = λ c s. refl;
  past = λ c s. refl;
  in_body = λ s a. (and_parts s.in_body _ a.0).0;
  allows = λ s t b d a. rw (b, d) a;
  state = λ s. refl;
})
kind_of (vector first digits code) = is_change (digits_key code) (record {
  is = refl;
  tick = λ now. refl;
  neither = refl;
  outcome = λ c s. refl;
  past = λ c s. refl;
  in_body = λ s a. (and_parts s.in_body _ a.0).0;
  allows = λ s t b d a. rw (b, d) a;
  state = λ s. refl;
})
kind_of (real_or_string first text code) = is_change (text_key code) (record {
  is = refl;
  tick = λ now. refl;
  neither = refl;
  outcome = λ c s. refl;
  past = λ c s. refl;
  in_body = λ s a. (and_parts s.in_body _ a.0).0;
  allows = λ s t b d a. rw (b, d) a;
  state = λ s. refl;
})
kind_of (dump_word word) = is_still (record {
  is = refl;
  tick = λ now. refl;
  neither = refl;
  outcome = λ c s. refl;
  past = λ c s. refl;
  allows = λ s vs n a. a;
  state = λ s vs n. refl;
  values = λ s. refl;
  same_tick = λ s. refl;
  body = λ s a b. (b, refl);
})
kind_of (other word words) = is_still (record {
  is = refl;
  tick = λ now. refl;
  neither = refl;
  outcome = λ c s. refl;
  past = λ c s. refl;
  allows = λ s vs n a. a;
  state = λ s vs n. refl;
  values = λ s. refl;
  same_tick = λ s. refl;
  body = λ s a b. (b, refl);
})

-- an item with a key is a change
pub change_of_key : (i : Item) → is_some (change_key i) ≡ true → (key : ChangeKey) × IsChange i key
change_of_key i some = elim (kind_of i) [
  | is_stamp digits is ↦ absurd (false≢true (sym (ap (λ (i : Item). is_some (change_key i)) is) ∙ some))
  | is_change key change ↦ (key, change)
  | is_still still ↦ absurd (false≢true (sym (ap (λ (k : Option ChangeKey). is_some k) still.is) ∙ some))
]

-- among the changes no variable is declared
pub body_stays : (s : ParseState) (i : Item) → Allows s i → s.in_body ≡ true
    → ((state_after_item s i).in_body ≡ true) × ((state_after_item s i).declared ≡ s.declared)
body_stays s i allows body = elim (kind_of i) [
  | is_stamp digits is ↦ rw is (body, refl)
  | is_change key change ↦ rw (change.state s) (body, refl)
  | is_still still ↦ still.body s allows body
]

pub declared_stays : (s : ParseState) (is : List Item) → AllowsAll s is → s.in_body ≡ true
    → (state_after s is).declared ≡ s.declared
declared_stays s [] allows body = refl
declared_stays s (i ∷ is) allows body =
    let here = body_stays s i allows.0 body in
    declared_stays (state_after_item s i) is allows.1 here.0 ∙ here.1

-- so the same codes are those of kept variables
pub kept_same : (s t : ParseState) → s.declared ≡ t.declared → has_kept_variable s ≡ has_kept_variable t
kept_same s t same =
    let codes_of : List VariableDeclaration → List ℕ → Bool = λ ds code. list_any (λ d. bytes_eq code d.code && not
    (is_skipped d)) ds in
    ap codes_of same

-- ---- the pieces in place of one

module _ (c : ℕ → Bool) (s : ParseState) (held : List Piece) (p : Piece) (ps : List Piece) where
  pub retimed_still : IsStill p.item → retimed_pieces c s held (p ∷ ps)
      ≡ p ∷ retimed_pieces c (state_after_item s p.item) held ps
  unfolding retimed_pieces
  retimed_still still = rw (still.past c s, still.outcome c s, still.is) refl

  pub retimed_change : (key : ChangeKey) → IsChange p.item key → retimed_pieces c s held (p ∷ ps)
      ≡ (if c s.tick then [] else p ∷ [])
      ++ retimed_pieces c (state_after_item s p.item) (held_with c s held p (Some key)) ps
  unfolding retimed_pieces
  retimed_change key change = rw (change.past c s, change.outcome c s, change.is) (elim (cases_Bool (c s.tick)) [
    | inl cut ↦ rw cut refl
    | inr left ↦ rw left refl
  ])

  pub retimed_by_stamp : (digits : List ℕ) → p.item ≡ stamp digits → retimed_pieces c s held (p ∷ ps)
      ≡ (if is_past c s (stamp digits) then released_pieces c s held else [])
      ++ pieces_in_place (retimed_stamp c (number_of digits)) p
      ++ retimed_pieces c (state_after_item s p.item) (if is_past c s (stamp digits) then [] else held) ps
  unfolding retimed_pieces
  retimed_by_stamp digits is = rw is refl
