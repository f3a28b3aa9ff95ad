-- What is heard of a file gives its signals their values, comes in the order of ticks, and fits its variables.
use Rattle.std.proofs.Common.{◌≡◌, ℕ, ◌<◌, ◌≤◌, Bool, true, false, ◌&&◌, ◌||◌, ◌==◌, List, [], ◌∷◌, ◌++◌}
use Rattle.std.proofs.Common.{length, map, refl, sym, ap, subst, ◌∙◌, arith, append_assoc, Option, Some, None}
use Rattle.std.proofs.Common.{if◌then◌else◌, nat_le, All, inl, inr, bytes_eq, eq-eqb}
use Rattle.std.specs.Prelude.{slice_get, find, IsTrue, IsFalse, nat_lt, not}
use Rattle.std.proofs.lemmas.Bool.{cases_Bool, and_parts, or_parts, or_cases, both_ways, le-leb, leb-true}
use Rattle.std.proofs.lemmas.Bool.{eqb-false, ne_eqb, not-true}
use Rattle.std.proofs.lemmas.List.{append-nil, map-append}
use Rattle.std.proofs.lemmas.List.Elements.{All-append, All-nil, All-from_recursion, filter-append}
use Rattle.std.proofs.lemmas.Option.{same_Some, slice_get_within}
use Rattle.std.proofs.lemmas.Slice.Eq.{bytes_eq-Decides}
use Rattle.vcd_core.specs.declared.capture.TheConstants.{END_LIMIT}
use Rattle.vcd_core.specs.declared.value.TheConstants.{WIDTH_LIMIT}
use Rattle.vcd_core.specs.Contents.{signal_value}
use Rattle.vcd_core.specs.Decimal.{is_number, number_of}
use Rattle.vcd_core.specs.Tests.{first_fault, ◌unless◌}
use Rattle.vcd_core.specs.Wave.{change, value_at}
use Rattle.vcd_core.proofs.shared.Waves.{value_at-changes_of}
use Rattle.vcd_text.specs.Letters.{is_binary_digit, letters_of_digits, extension, value_of_digits}
use Rattle.vcd_text.specs.Meaning.{declared_signal, changes_of_code}
use Rattle.vcd_text.specs.Items.{Item, entry, timescale, scope, upscope, variable, end_definitions, stamp, scalar}
use Rattle.vcd_text.specs.Items.{vector, real_or_string, dump_word, other}
use Rattle.vcd_text.specs.Grammar.{VariableDeclaration, ValueChange, ParseState, Allows, AllowsAll, fits, is_skipped}
use Rattle.vcd_text.specs.Grammar.{kept_variables, variable_of, value_changes_after, digit_tests, state_after_item}
use Rattle.vcd_text.specs.Grammar.{state_after, initial_state}
use Rattle.vcd_text.specs.HeardChanges.{HeardChange, first_with, heard_value, heard_of, heard_all, AreHeard}
use Rattle.vcd_text.specs.HeardChanges.{heard_changes, is_of_kept, heard_word, skipped_variables}
use Rattle.vcd_text.specs.HeardLaws.{TicksRise, FitsTarget}
use Rattle.vcd_text.specs.inside.reading.DigitTests.{is_binary_number}
use Rattle.vcd_text.specs.declared.reading.heard_changes.ChangeTarget.TheVariants as targets
use Rattle.vcd_text.specs.declared.fault.Fault.TheVariants.{BadChange, ValueTooLong, BadTime, TimeBackwards}
use Rattle.vcd_text.proofs.reading.change_listener.HeardItems.{none_of_declarations}
use Rattle.vcd_text.proofs.shared.FirstVariables.{first_found, first_taken}
use Rattle.vcd_text.proofs.shared.ItemTests.{passed}

-- ---- among the changes

body_stays : (s : ParseState) (i : Item) → IsTrue (fits s i) → IsTrue s.in_body
    → IsTrue (state_after_item s i).in_body × ((state_after_item s i).declared ≡ s.declared)
    × ((state_after_item s i).timescale ≡ s.timescale)
body_stays s (scalar digit code) fit in_body = (in_body, refl, refl)
body_stays s (vector first digits code) fit in_body = (in_body, refl, refl)
body_stays s (real_or_string first text code) fit in_body = (in_body, refl, refl)
body_stays s (stamp digits) fit in_body = (in_body, refl, refl)
body_stays s (dump_word word) fit in_body = (in_body, refl, refl)
body_stays s (other word words) fit in_body = (in_body, refl, refl)
body_stays s (entry kind words) fit in_body = (in_body, refl, refl)
body_stays s (timescale words) fit in_body = absurd (both_ways _ (not-true _ (and_parts _ _ fit).0) in_body)
body_stays s (scope kind words) fit in_body = (in_body, refl, refl)
body_stays s upscope fit in_body = (in_body, refl, refl)
body_stays s (variable words) fit in_body = absurd (both_ways _ (not-true _ (and_parts _ _ fit).0) in_body)
body_stays s end_definitions fit in_body = (refl, refl, refl)

declared_in_body : (s : ParseState) (is : List Item) → AllowsAll s is → IsTrue s.in_body
    → IsTrue (state_after s is).in_body × ((state_after s is).declared ≡ s.declared)
    × ((state_after s is).timescale ≡ s.timescale)
declared_in_body s [] allowed in_body = (in_body, refl, refl)
declared_in_body s (i ∷ is) (one, others) in_body =
    let first = body_stays s i one.0 in_body in
    let rest = declared_in_body (state_after_item s i) is others first.0 in
    (rest.0, rest.1 ∙ first.1, rest.2 ∙ first.2)

pub declarations_stay : (from to : ParseState) (heard : List HeardChange) → AreHeard from to heard
    → IsTrue from.in_body → IsTrue to.in_body × (to.declared ≡ from.declared) × (to.timescale ≡ from.timescale)
declarations_stay from to heard are in_body = rw are.state_is at (declared_in_body from are.items are.allowed in_body)

-- ---- the order of ticks

rise_earlier : (early late to : ℕ) (ts : List ℕ) → early ≤ late → TicksRise late to ts → TicksRise early to ts
rise_earlier early late to [] before rise = omega (arith, before, rise)
rise_earlier early late to (t ∷ ts) before (first, rise) = (omega (arith, before, first), rise)

abbrev ticks_of : List HeardChange → List ℕ
ticks_of hs = map (λ (h : HeardChange). h.tick) hs

value_rises : (s : ParseState) (code digits : List ℕ) (o : Option VariableDeclaration) (to : ℕ)
    (rest : List HeardChange) → TicksRise s.tick to (ticks_of rest)
    → TicksRise s.tick to (ticks_of (heard_value s code digits o ++ rest))
value_rises s code digits None to rest rise = rise
value_rises s code digits (Some d) to rest rise = (omega arith, rise)

word_rises : (s : ParseState) (code word : List ℕ) (o : Option VariableDeclaration) (to : ℕ)
    (rest : List HeardChange) → TicksRise s.tick to (ticks_of rest)
    → TicksRise s.tick to (ticks_of (heard_word s code word o ++ rest))
word_rises s code word None to rest rise = rise
word_rises s code word (Some d) to rest rise =
    elim (cases_Bool (is_skipped d)) [
      | inl skips ↦ rw skips (omega arith, rise)
      | inr keeps ↦ rw keeps rise
    ]

item_rises : (s : ParseState) (i : Item) (to : ℕ) (rest : List HeardChange) → Allows s i
    → TicksRise (state_after_item s i).tick to (ticks_of rest) → TicksRise s.tick to (ticks_of (heard_of s i ++ rest))
item_rises s (scalar digit code) to rest allowed rise =
    value_rises s code (digit ∷ []) (variable_of s code) to rest rise
item_rises s (vector first digits code) to rest allowed rise =
    value_rises s code digits (variable_of s code) to rest rise
item_rises s (stamp digits) to rest allowed rise =
    let later = nat_le s.tick (number_of digits) in
    let one = passed BadTime (is_number digits && nat_le (number_of digits) END_LIMIT)
    ((TimeBackwards unless later) ∷ []) allowed.1 in
    let two = passed TimeBackwards later [] one.1 in
    rise_earlier s.tick (number_of digits) to (ticks_of rest) (leb-true _ _ two.0) rise
item_rises s (entry kind words) to rest allowed rise = rise
item_rises s (timescale words) to rest allowed rise = rise
item_rises s (scope kind words) to rest allowed rise = rise
item_rises s upscope to rest allowed rise = rise
item_rises s (variable words) to rest allowed rise = rise
item_rises s end_definitions to rest allowed rise = rise
item_rises s (real_or_string first text code) to rest allowed rise =
    word_rises s code (first ∷ text) (variable_of s code) to rest rise
item_rises s (dump_word word) to rest allowed rise = rise
item_rises s (other word words) to rest allowed rise = rise

items_rise : (s : ParseState) (is : List Item) → AllowsAll s is
    → TicksRise s.tick (state_after s is).tick (ticks_of (heard_all s is))
unfolding heard_all
items_rise s [] allowed = omega arith
items_rise s (i ∷ is) (one, others) =
    item_rises s i (state_after s (i ∷ is)).tick (heard_all (state_after_item s i) is) one
    (items_rise (state_after_item s i) is others)

pub heard_rise : (from to : ParseState) (heard : List HeardChange) → AreHeard from to heard
    → TicksRise from.tick to.tick (map (λ (h : HeardChange). h.tick) heard)
heard_rise from to heard are = rw are.heard_is (rw are.state_is at (items_rise from are.items are.allowed))

-- ---- the first kept variable of a code

-- the first variable of a code, if it is kept, is the first kept one with the code
kept_first : (code : List ℕ) (ds : List VariableDeclaration) (e : VariableDeclaration)
    → find (λ (d : VariableDeclaration). bytes_eq code d.code) ds ≡ Some e → is_skipped e ≡ false
    → slice_get (kept_variables ds) (first_with code (kept_variables ds)) ≡ Some e
kept_first code ds e found keeps = first_taken (λ d. not (is_skipped d)) code ds e found (ap not keeps)

found_code : (code : List ℕ) (ds : List VariableDeclaration) (e : VariableDeclaration)
    → find (λ (d : VariableDeclaration). bytes_eq code d.code) ds ≡ Some e → e.code ≡ code
found_code code [] e found = absurd (cc found)
found_code code (d ∷ ds) e found =
    elim (cases_Bool (bytes_eq code d.code)) [
      | inl here ↦
          sym ((bytes_eq-Decides code d.code).0 here
          ∙ ap (λ (x : VariableDeclaration). x.code) (same_Some d e (rw here at found)))
      | inr apart ↦ found_code code ds e (rw apart at found)
    ]

-- two codes that have variables have one first variable if they are one
same_first : (ds : List VariableDeclaration) (a b : List ℕ) (k l : ℕ) (d e : VariableDeclaration)
    → slice_get ds k ≡ Some d → d.code ≡ a → slice_get ds l ≡ Some e → e.code ≡ b
    → bytes_eq a b ≡ (first_with a ds == first_with b ds)
same_first ds a b k l d e at own there also =
    elim (cases_Bool (bytes_eq a b)) [
      | inl equal ↦
          equal ∙ sym (eq-eqb _ _ (ap (λ c. first_with c ds) ((bytes_eq-Decides a b).0 equal)))
      | inr apart ↦
          let x = first_found a ds k d at own in
          let y = first_found b ds l e there also in
          apart ∙ sym (ne_eqb _ _ (λ same. both_ways _ apart ((bytes_eq-Decides a b).1 (sym x.own_code
          ∙ ap (λ (v : VariableDeclaration). v.code)
          (same_Some _ _ (sym x.at_first ∙ ap (slice_get ds) same ∙ y.at_first))
          ∙ y.own_code))))
    ]

-- ---- the values

module _ (size : ℕ) (code : List ℕ) (s : ParseState) (k : ℕ) (d : VariableDeclaration)
    (at : slice_get (kept_variables s.declared) k ≡ Some d) (own : d.code ≡ code) where
  value_heard : (key digits : List ℕ) (o : Option VariableDeclaration) → variable_of s key ≡ o
      → changes_of_code size code (value_changes_after s key (letters_of_digits digits) o)
      ≡ heard_changes size (first_with code (kept_variables s.declared)) (heard_value s key digits o)
  unfolding changes_of_code
  value_heard key digits None is = refl
  value_heard key digits (Some e) is =
      elim (cases_Bool (is_skipped e)) [
        | inl skips ↦ rw skips refl
        | inr keeps ↦
            let one = same_first (kept_variables s.declared) key code
            (first_with key (kept_variables s.declared)) k e d (kept_first key s.declared e is keeps)
            (found_code key s.declared e is) at own in
            elim (cases_Bool (bytes_eq key code)) [
              | inl equal ↦ rw (keeps, equal, sym one ∙ equal) refl
              | inr apart ↦ rw (keeps, apart, sym one ∙ apart) refl
            ]
      ]

  no_value_heard : (key word : List ℕ) (o : Option VariableDeclaration)
      → heard_changes size (first_with code (kept_variables s.declared)) (heard_word s key word o) ≡ []
  no_value_heard key word None = refl
  no_value_heard key word (Some e) =
      elim (cases_Bool (is_skipped e)) [
        | inl skips ↦ rw skips refl
        | inr keeps ↦ rw keeps refl
      ]

  changes_append : (vs ws : List ValueChange)
      → changes_of_code size code (vs ++ ws) ≡ changes_of_code size code vs ++ changes_of_code size code ws
  unfolding changes_of_code
  changes_append vs ws =
      ap (map (λ (v : ValueChange). change v.tick (extension size v.letters)))
      (filter-append (λ (v : ValueChange). bytes_eq v.code code) vs ws)
      ∙ map-append (λ (v : ValueChange). change v.tick (extension size v.letters)) _ _

  item_gives : (i : Item) → changes_of_code size code (state_after_item s i).value_changes
      ≡ changes_of_code size code s.value_changes
      ++ heard_changes size (first_with code (kept_variables s.declared)) (heard_of s i)
  item_gives (scalar digit c) =
      changes_append s.value_changes _ ∙ ap (λ cs. changes_of_code size code s.value_changes ++ cs)
      (value_heard c (digit ∷ []) (variable_of s c) refl)
  item_gives (vector first digits c) =
      changes_append s.value_changes _ ∙ ap (λ cs. changes_of_code size code s.value_changes ++ cs)
      (value_heard c digits (variable_of s c) refl)
  item_gives (entry kind words) = sym (append-nil _)
  item_gives (timescale words) = sym (append-nil _)
  item_gives (scope kind words) = sym (append-nil _)
  item_gives upscope = sym (append-nil _)
  item_gives (variable words) = sym (append-nil _)
  item_gives end_definitions = sym (append-nil _)
  item_gives (stamp digits) = sym (append-nil _)
  item_gives (real_or_string first text c) =
      sym (ap (λ cs. changes_of_code size code s.value_changes ++ cs)
      (no_value_heard c (first ∷ text) (variable_of s c)) ∙ append-nil _)
  item_gives (dump_word word) = sym (append-nil _)
  item_gives (other word words) = sym (append-nil _)

-- no declaration is a change
same_changes : (s : ParseState) (i : Item) → IsTrue (fits s i) → IsFalse s.in_body
    → (state_after_item s i).value_changes ≡ s.value_changes
same_changes s (scalar digit code) fit early = absurd (both_ways _ early (and_parts _ _ fit).0)
same_changes s (vector first digits code) fit early = absurd (both_ways _ early (and_parts _ _ fit).0)
same_changes s (entry kind words) fit early = refl
same_changes s (timescale words) fit early = refl
same_changes s (scope kind words) fit early = refl
same_changes s upscope fit early = refl
same_changes s (variable words) fit early = refl
same_changes s end_definitions fit early = refl
same_changes s (stamp digits) fit early = refl
same_changes s (real_or_string first text code) fit early = refl
same_changes s (dump_word word) fit early = refl
same_changes s (other word words) fit early = refl

heard_append : (size position : ℕ) (hs ks : List HeardChange)
    → heard_changes size position (hs ++ ks) ≡ heard_changes size position hs ++ heard_changes size position ks
heard_append size position hs ks =
    ap (map (λ (h : HeardChange). change h.tick (extension size (letters_of_digits h.text))))
    (filter-append (λ (h : HeardChange). is_of_kept position h.target) hs ks)
    ∙ map-append (λ (h : HeardChange). change h.tick (extension size (letters_of_digits h.text))) _ _

items_give : (size : ℕ) (code : List ℕ) (declared : List VariableDeclaration) (k : ℕ) (d : VariableDeclaration)
    → slice_get (kept_variables declared) k ≡ Some d → d.code ≡ code → (s : ParseState) (is : List Item)
    → AllowsAll s is → (state_after s is).declared ≡ declared
    → changes_of_code size code (state_after s is).value_changes ≡ changes_of_code size code s.value_changes
    ++ heard_changes size (first_with code (kept_variables declared)) (heard_all s is)
unfolding heard_all
items_give size code declared k d at own s [] allowed same = sym (append-nil _)
items_give size code declared k d at own s (i ∷ is) (one, others) same =
    let next = state_after_item s i in
    let p = first_with code (kept_variables declared) in
    let rest = items_give size code declared k d at own next is others same in
    elim (cases_Bool s.in_body) [
      | inl in_body ↦
          let stays : s.declared ≡ declared = sym (declared_in_body s (i ∷ is) (one, others) in_body).1 ∙ same in
          let here = item_gives size code s k d (ap (λ ds. slice_get (kept_variables ds) k) stays ∙ at) own i in
          rest ∙ ap (λ cs. cs ++ heard_changes size p (heard_all next is))
          (here ∙ ap (λ ds. changes_of_code size code s.value_changes
          ++ heard_changes size (first_with code (kept_variables ds)) (heard_of s i)) stays)
          ∙ append_assoc (changes_of_code size code s.value_changes) (heard_changes size p (heard_of s i)) _
          ∙ ap (λ cs. changes_of_code size code s.value_changes ++ cs)
          (sym (heard_append size p (heard_of s i) (heard_all next is)))
      | inr early ↦
          rest ∙ (λ j. changes_of_code size code (same_changes s i one.0 early j) ++ heard_changes size p
          (sym (none_of_declarations s i one.0 early) j ++ heard_all next is))
    ]

pub heard_give_values : (limit : ℕ) (state : ParseState) (heard : List HeardChange)
    → AreHeard (initial_state limit) state heard → (k t : ℕ) (d : VariableDeclaration)
    → slice_get (kept_variables state.declared) k ≡ Some d → t ≤ state.tick
    → signal_value (declared_signal state.value_changes state.tick d) t
    ≡ value_at d.size (heard_changes d.size (first_with d.code (kept_variables state.declared)) heard) t
unfolding changes_of_code
heard_give_values limit state heard are k t d at upto =
    let p = first_with d.code (kept_variables state.declared) in
    let same = items_give d.size d.code state.declared k d at refl (initial_state limit) are.items are.allowed
    (ap (λ (s : ParseState). s.declared) are.state_is) in
    value_at-changes_of d.size state.tick t (value_at d.size (changes_of_code d.size d.code state.value_changes)) upto
    ∙ ap (λ cs. value_at d.size cs t)
    (ap (λ (s : ParseState). changes_of_code d.size d.code s.value_changes) (sym are.state_is) ∙ same
    ∙ ap (heard_changes d.size p) (sym are.heard_is))

-- ---- the texts

-- digits that a kept variable takes have a value
has_value : (size : ℕ) (digits : List ℕ) → is_binary_number digits ≡ true → nat_le (length digits) size ≡ true
    → value_of_digits size digits ≡ Some (extension size (letters_of_digits digits))
has_value size digits number short = rw (number, short) refl

unless_skipped : (x y : Bool) → x ≡ false → (x || y) ≡ true → y ≡ true
unless_skipped x y keeps either =
    elim (or_cases x y either) [
      | inl left_out ↦ absurd (both_ways _ keeps left_out)
      | inr fine ↦ fine
    ]

abbrev Fits : List VariableDeclaration → HeardChange → Type 0
Fits declared h = FitsTarget declared h.target h.text

skipped_within : (s : ParseState) (code : List ℕ) (d : VariableDeclaration) → variable_of s code ≡ Some d
    → is_skipped d ≡ true → first_with code (skipped_variables s.declared) < length (skipped_variables s.declared)
skipped_within s code d is skips =
    slice_get_within (skipped_variables s.declared) _ d (first_taken is_skipped code s.declared d is skips)

value_fits : (s : ParseState) (code digits : List ℕ) (o : Option VariableDeclaration) → variable_of s code ≡ o
    → ((d : VariableDeclaration) → o ≡ Some d → is_skipped d ≡ false
    → (is_binary_number digits ≡ true) × (nat_le (length digits) d.size ≡ true))
    → All (Fits s.declared) (heard_value s code digits o)
value_fits s code digits None is takes = All-nil _
value_fits s code digits (Some d) is takes =
    All-from_recursion (Fits s.declared) (heard_value s code digits (Some d)) (by_kind (is_skipped d) refl, tt)
  where
    by_kind : (skips : Bool) → is_skipped d ≡ skips
        → FitsTarget s.declared (if skips then targets.Skipped (first_with code (skipped_variables s.declared))
        else targets.Kept (first_with code (kept_variables s.declared))) digits
    by_kind true skips = skipped_within s code d is skips
    by_kind false keeps =
        let (number, short) = takes d refl keeps in
        rw (kept_first code s.declared d is keeps) (has_value d.size digits number short)

word_fits : (s : ParseState) (code word : List ℕ) (o : Option VariableDeclaration) → variable_of s code ≡ o
    → All (Fits s.declared) (heard_word s code word o)
word_fits s code word None is = All-nil _
word_fits s code word (Some d) is = by_kind (is_skipped d) refl
  where
    by_kind : (skips : Bool) → is_skipped d ≡ skips
        → All (Fits s.declared) (if skips then heard_value s code word (Some d) else [])
    by_kind true skips = value_fits s code word (Some d) is (λ e same keeps.
        absurd (both_ways _ keeps (ap is_skipped (same_Some e d (sym same)) ∙ skips)))
    by_kind false keeps = All-nil _

one_digit : (digit : ℕ) → is_binary_digit digit ≡ true → (d : VariableDeclaration) → is_skipped d ≡ false
    → (is_binary_number (digit ∷ []) ≡ true) × (nat_le (length (digit ∷ [])) d.size ≡ true)
one_digit digit is d keeps =
    let parts = or_parts (d.size == 0) (nat_lt WIDTH_LIMIT d.size) (or_parts _ _ keeps).1 in
    let some : d.size ≡ 0 → ⊥ = eqb-false d.size 0 parts.0 in
    (rw is refl, le-leb 1 d.size (omega (arith, some)))

digits_taken : (o : Option VariableDeclaration) (digits : List ℕ) → first_fault (digit_tests digits o) ≡ None
    → (d : VariableDeclaration) → o ≡ Some d → is_skipped d ≡ false
    → (is_binary_number digits ≡ true) × (nat_le (length digits) d.size ≡ true)
digits_taken None digits none d is keeps = absurd (cc is)
digits_taken (Some e) digits none d is keeps =
    let same : e ≡ d = same_Some e d is in
    let kept = ap is_skipped same ∙ keeps in
    let long = nat_le (length digits) e.size in
    let one = passed BadChange (is_skipped e || is_binary_number digits)
    ((ValueTooLong unless (is_skipped e || long)) ∷ []) none in
    let two = passed ValueTooLong (is_skipped e || long) [] one.1 in (
      unless_skipped _ _ kept one.0,
      ap (λ (x : VariableDeclaration). nat_le (length digits) x.size) (sym same)
          ∙ unless_skipped _ _ kept two.0,
    )

item_fits : (s : ParseState) (i : Item) → Allows s i
    → All (Fits s.declared) (heard_of s i)
item_fits s (scalar digit code) allowed =
    let parts = and_parts s.in_body (is_binary_digit digit && nat_lt 0 (length code)) allowed.0 in
    value_fits s code (digit ∷ []) (variable_of s code) refl (λ d is keeps.
    one_digit digit (and_parts (is_binary_digit digit) (nat_lt 0 (length code)) parts.1).0 d keeps)
item_fits s (vector first digits code) allowed =
    value_fits s code digits (variable_of s code) refl (digits_taken (variable_of s code) digits allowed.1)
item_fits s (entry kind words) allowed = All-nil _
item_fits s (timescale words) allowed = All-nil _
item_fits s (scope kind words) allowed = All-nil _
item_fits s upscope allowed = All-nil _
item_fits s (variable words) allowed = All-nil _
item_fits s end_definitions allowed = All-nil _
item_fits s (stamp digits) allowed = All-nil _
item_fits s (real_or_string first text code) allowed =
    word_fits s code (first ∷ text) (variable_of s code) refl
item_fits s (dump_word word) allowed = All-nil _
item_fits s (other word words) allowed = All-nil _

items_fit : (declared : List VariableDeclaration) (s : ParseState) (is : List Item) → AllowsAll s is
    → (state_after s is).declared ≡ declared
    → All (Fits declared) (heard_all s is)
unfolding heard_all
items_fit declared s [] allowed same = All-nil _
items_fit declared s (i ∷ is) (one, others) same =
    let rest = items_fit declared (state_after_item s i) is others same in
    elim (cases_Bool s.in_body) [
      | inl in_body ↦
          let stays : s.declared ≡ declared = sym (declared_in_body s (i ∷ is) (one, others) in_body).1 ∙ same in
          All-append (Fits declared) (heard_of s i) (heard_all (state_after_item s i) is) (subst (λ ds. All (Fits ds)
          (heard_of s i)) stays (item_fits s i one)) rest
      | inr early ↦ rw (none_of_declarations s i one.0 early) rest
    ]

pub heard_fit : (limit : ℕ) (state : ParseState) (heard : List HeardChange)
    → AreHeard (initial_state limit) state heard → All (Fits state.declared) heard
heard_fit limit state heard are = rw are.heard_is
    (items_fit state.declared (initial_state limit) are.items are.allowed
    (ap (λ (s : ParseState). s.declared) are.state_is))
