-- All changes of an amended file are allowed, and after them it has the values of the new waves.
use Rattle.std.proofs.Common.{◌≡◌, ℕ, zero, suc, ◌+◌, ◌-◌, ◌<◌, ◌≤◌, Bool, true, false, List, [], ◌∷◌, ◌++◌, Option}
use Rattle.std.proofs.Common.{Some, None, ◌∙◌, IsTrue, refl, sym, ap, append_assoc, arith, subst, if◌then◌else◌, not}
use Rattle.std.proofs.Common.{nat_le, ◌&&◌}
use Rattle.std.specs.Prelude.{is_some}
use Rattle.std.specs.List.{flat_map}
use Rattle.std.proofs.lemmas.Bool.{and_parts, false≢true, leb-true}
use Rattle.std.proofs.lemmas.List.{append-nil}
use Rattle.vcd_core.specs.declared.capture.TheConstants.{END_LIMIT}
use Rattle.vcd_core.specs.declared.bit.Bit.{Bit}
use Rattle.vcd_core.specs.Decimal.{number_of, is_number}
use Rattle.vcd_core.specs.Tests.{first_fault}
use Rattle.vcd_text.specs.Letters.{letters_of_digits}
use Rattle.vcd_text.specs.Items.{Item, entry, timescale, scope, upscope, variable, end_definitions, stamp, scalar}
use Rattle.vcd_text.specs.Items.{vector, real_or_string, dump_word, other}
use Rattle.vcd_text.specs.Grammar.{ValueChange, VariableDeclaration, ParseState, is_skipped, Allows, variable_of}
use Rattle.vcd_text.specs.Grammar.{AllowsAll, state_after_item, state_after, value_changes_after, digit_tests}
use Rattle.vcd_amend.specs.Amendment.{Amendment, AmendedCode, first_with_code, amended_code, old_value}
use Rattle.vcd_amend.specs.AmendedItems.{stands, is_left_out, items_in_place, change_fate, item_fate, inserted_items}
use Rattle.vcd_amend.specs.AmendedItems.{items_due_until, amended_items, still_none_yet}
use Rattle.vcd_amend.specs.AmendedMeaning.{class_of}
use Rattle.vcd_text.proofs.shared.ItemsInTurn.{Reaches, reaches_both, reaches_none, reaches_one}
use Rattle.vcd_text.proofs.shared.ItemTests.{has_tick, allows_stamp}
use Rattle.vcd_amend.proofs.amended.OneCode.{of_code, of_both, value_by, any_at, of, HoldsNew, tick_ends}
use Rattle.vcd_amend.proofs.amended.Due.{body_of, due_of, over, all_due_lead, ticks_lead}
use Rattle.vcd_amend.proofs.amended.Body.{Serves, same_skipped, same_digit_tests, HoldsFor, due_for, due_of_code}
use Rattle.vcd_amend.proofs.amended.Body.{early_more, ours, rescoped, at, Holds, InBody, Leads, wide_of, change_leads}

-- ---- what later items leave

-- the last stamp is no earlier, and the values before it stay
pub record Keeps (s t : ParseState) : Type 0 where
  pub later : s.tick ≤ t.tick
  pub same : (width : ℕ) (code : List ℕ) (u : ℕ) → u < s.tick
      → value_by width (of_code code t.value_changes) u ≡ value_by width (of_code code s.value_changes) u

keeps_more : (s : ParseState) (k : List ℕ) (letters : List Bit) (o : Option VariableDeclaration)
    → Keeps s (record s { value_changes = s.value_changes ++ value_changes_after s k letters o })
keeps_more s k letters None = record {
  later = omega arith;
  same = λ width code u before. ap (λ l. value_by width (of_code code l) u) (append-nil s.value_changes);
}
keeps_more s k letters (Some d) = record {
  later = omega arith;
  same = λ width code u before. by_kind width code u before (is_skipped d);
}
  where
    by_kind : (width : ℕ) (code : List ℕ) (u : ℕ) → u < s.tick → (b : Bool)
        → value_by width (of_code code (s.value_changes ++ (if b then [] else of s.tick k letters ∷ []))) u
        ≡ value_by width (of_code code s.value_changes) u
    by_kind width code u before true = ap (λ l. value_by width (of_code code l) u) (append-nil s.value_changes)
    by_kind width code u before false = early_more width code s.value_changes (of s.tick k letters) u before

keeps_all : (s t : ParseState) → t.tick ≡ s.tick → t.value_changes ≡ s.value_changes → Keeps s t
keeps_all s t tick changes = record {
  later = omega arith;
  same = λ width code u before. ap (λ l. value_by width (of_code code l) u) changes;
}

item_keeps : (s : ParseState) (i : Item) → Allows s i → Keeps s (state_after_item s i)
item_keeps s (entry kind words) allows = keeps_all s _ refl refl
item_keeps s (timescale words) allows = keeps_all s _ refl refl
item_keeps s (scope kind words) allows = keeps_all s _ refl refl
item_keeps s upscope allows = keeps_all s _ refl refl
item_keeps s (variable words) allows = keeps_all s _ refl refl
item_keeps s end_definitions allows = keeps_all s _ refl refl
item_keeps s (stamp digits) allows = record { later = (has_tick s digits allows).1; same = λ width code u before. refl }
item_keeps s (scalar digit code) allows = keeps_more s code _ (variable_of s code)
item_keeps s (vector first digits code) allows = keeps_more s code _ (variable_of s code)
item_keeps s (real_or_string first text code) allows = keeps_all s _ refl refl
item_keeps s (dump_word word) allows = keeps_all s _ refl refl
item_keeps s (other word words) allows = keeps_all s _ refl refl

pub all_keep : (s : ParseState) (is : List Item) → AllowsAll s is → Keeps s (state_after s is)
all_keep s [] allows = keeps_all s s refl refl
all_keep s (i ∷ is) allows =
    let here = item_keeps s i allows.0 in
    let rest = all_keep (state_after_item s i) is allows.1 in
    record {
      later = omega (arith, here.later, rest.later);
      same = λ width code u before. rest.same width code u (omega (arith, before, here.later)) ∙ here.same width code u
          before;
    }

module _ (a : Amendment) where
  -- ---- ticks

  -- what is due at a tick
  abbrev due_at : ParseState → ℕ → List ValueChange
  due_at s t = flat_map (due_of s t) a.codes

  -- the old wave of each amended code has the value of the file at a tick
  abbrev pub IsOldAt : ParseState → ℕ → Type 0
  IsOldAt s t = (code : List ℕ) (c : AmendedCode) → amended_code code a.codes ≡ Some c
      → value_by c.width (of_code code s.value_changes) t ≡ old_value c t

  module _ (s : ParseState) (serves : Serves a s.declared) where
    -- the value changes of a code in the file
    abbrev theirs : List ℕ → List ValueChange
    theirs code = of_code code s.value_changes

    -- the end of a tick
    one_tick : (vs : List ValueChange) (t : ℕ)
        → ((code : List ℕ) (c : AmendedCode) → amended_code code a.codes ≡ Some c
        → any_at t (of_code code s.value_changes) ≡ true
        → value_by c.width (of_code code s.value_changes) t ≡ old_value c t)
        → ((code : List ℕ) → any_at (t + 1) (of_code code s.value_changes) ≡ false)
        → Holds a s.declared s.value_changes t vs → Holds a s.declared s.value_changes (t + 1) (vs ++ due_at s t)
    one_tick vs t settled none holds code e left = subst (HoldsFor (amended_code code a.codes) (theirs code) (t + 1))
        (sym (of_both code vs (due_at s t) ∙ ap (λ l. of_code code vs ++ l) (due_of_code s t code a.codes
        serves.apart))) (by_code (amended_code code a.codes) refl (holds code e left))
      where
        next : suc t ≡ t + 1
        next = omega arith

        by_code : (o : Option AmendedCode) → amended_code code a.codes ≡ o → HoldsFor o (theirs code) t
            (of_code code vs)
            → HoldsFor o (theirs code) (t + 1) (of_code code vs ++ due_for o t (theirs code))
        by_code None is same = append-nil (of_code code vs) ∙ same
        by_code (Some c) is new = subst (λ n. HoldsNew c (theirs code) n (of_code code vs ++ due_for (Some c) t
            (theirs code))) next (tick_ends c (wide_of a s serves code c is) (theirs code) (of_code code vs) t new
            (settled code c is) (subst (λ n. any_at n (theirs code) ≡ false) (sym next) (none code)))

    -- n ticks
    ticks : (n : ℕ) (vs : List ValueChange) (t until : ℕ) → t + n ≡ until → (0 < n → IsOldAt s t)
        → ((code : List ℕ) (u : ℕ) → t < u → any_at u (of_code code s.value_changes) ≡ false)
        → Holds a s.declared s.value_changes t vs
        → Holds a s.declared s.value_changes until (vs ++ over (due_at s) t n)
    ticks zero vs t until is settled past holds = rw (append-nil vs) (subst (λ u. Holds a s.declared s.value_changes u
        vs) (omega arith) holds)
    ticks (suc n) vs t until is settled past holds =
        let old = settled (omega arith) in
        let here = one_tick vs t (λ code c found some. old code c found) (λ code. past code (t + 1) (omega arith)) holds
        in
        rw (← (append_assoc vs (due_at s t) (over (due_at s) (t + 1) n))) (later (vs ++ due_at s t) here)
      where
        -- no change of the file is at the ticks after the first
        later : (us : List ValueChange) → Holds a s.declared s.value_changes (t + 1) us
            → Holds a s.declared s.value_changes until (us ++ over (due_at s) (t + 1) n)
        later us held = later_ticks n us (t + 1) until (omega arith) (λ code u after. past code u (omega arith)) held
          where
            later_ticks : (n : ℕ) (vs : List ValueChange) (t until : ℕ) → t + n ≡ until
                → ((code : List ℕ) (u : ℕ) → t ≤ u → any_at u (of_code code s.value_changes) ≡ false)
                → Holds a s.declared s.value_changes t vs
                → Holds a s.declared s.value_changes until (vs ++ over (due_at s) t n)
            later_ticks zero vs t until is none holds = rw (append-nil vs) (subst (λ u. Holds a s.declared
                s.value_changes u vs) (omega arith) holds)
            later_ticks (suc n) vs t until is none holds =
                let here = one_tick vs t (λ code c found some. absurd (false≢true (sym (none code t (omega arith))
                ∙ some))) (λ code. none code (t + 1) (omega arith)) holds in
                rw (← (append_assoc vs (due_at s t) (over (due_at s) (t + 1) n))) (later_ticks n (vs ++ due_at s t)
                (t + 1) until (omega arith) (λ code u after. none code u (omega arith)) here)

  -- ---- one item

  -- a stamp: what is due at the ticks before it comes first
  stamp_leads : (none_yet : Bool) (s : ParseState) (vs : List ValueChange) (digits : List ℕ) → InBody a s vs
      → Allows s (stamp digits)
      → (s.tick < number_of digits → IsOldAt s s.tick)
      → Leads a s vs (items_due_until a none_yet s (number_of digits) ++ stamp digits ∷ []) (state_after_item s (stamp
      digits))
  stamp_leads none_yet s vs digits body allows settled =
      let stamped = has_tick s digits allows in
      let least : s.tick ≤ number_of digits = stamped.1 in
      let tests = and_parts (is_number digits) (nat_le (number_of digits) END_LIMIT) stamped.0 in
      let most : number_of digits ≤ END_LIMIT = leb-true (number_of digits) END_LIMIT tests.1 in
      let until : s.tick + (number_of digits - s.tick) ≡ number_of digits = omega arith in
      let before = ticks_lead (rescoped a s) (ours a s) a.codes body.serves.takes none_yet vs s.tick (number_of digits)
      (number_of digits - s.tick) until most in
      record {
        value_changes = vs ++ over (due_at s) s.tick (number_of digits - s.tick);
        leads = reaches_both _ _ _ _ _ before.leads (reaches_one _ _ _ (allows_stamp (body_of (rescoped a s) (ours a s)
            (vs
            ++ over (due_at s) s.tick (number_of digits - s.tick)) before.stamped) digits refl stamped.0 before.upto)
            refl);
        body = record {
          in_body = body.in_body;
          past = λ code u after. body.past code u (omega arith);
          serves = body.serves;
          holds = ticks s body.serves (number_of digits - s.tick) vs s.tick (number_of digits) until
              (λ some. settled (omega
              arith)) body.past body.holds;
        };
      }

  -- what a change adds in the amended file
  own_more : (s : ParseState) (vs : List ValueChange) (code : List ℕ) (letters : List Bit) (d e : VariableDeclaration)
      → first_with_code code (ours a s) ≡ Some e → class_of d ≡ class_of e
      → value_changes_after (at a s vs) code letters (first_with_code code (ours a s))
      ≡ (if is_skipped d then [] else of s.tick code letters ∷ [])
  own_more s vs code letters d e left same = ap (value_changes_after (at a s vs) code letters) left
      ∙ ap (λ (b : Bool). if b then [] else of s.tick code letters ∷ []) (sym (same_skipped d e same))

  scalar_leads : (s : ParseState) (vs : List ValueChange) (digit : ℕ) (code : List ℕ) (o : Option VariableDeclaration)
      → first_with_code code s.declared ≡ o → InBody a s vs → Allows s (scalar digit code)
      → Leads a s vs (items_in_place (change_fate a s code) (scalar digit code)) (state_after_item s
      (scalar digit code))
  scalar_leads s vs digit code None is body allows = absurd (grind (arith, allows.1))
  scalar_leads s vs digit code (Some d) is body allows = change_leads a s vs (scalar digit code) code (letters_of_digits
      (digit ∷ [])) d body is (λ e left same. reaches_one _ _ _ ((and_parts _ _ allows.0).1, rw left refl)
      (ap (λ m. at a s (vs ++ m)) (own_more s vs code (letters_of_digits (digit ∷ [])) d e left same)))

  vector_leads : (s : ParseState) (vs : List ValueChange) (first : ℕ) (digits code : List ℕ)
      (o : Option VariableDeclaration) → first_with_code code s.declared ≡ o → InBody a s vs
      → Allows s (vector first digits code)
      → Leads a s vs (items_in_place (change_fate a s code) (vector first digits code)) (state_after_item s (vector
      first digits code))
  vector_leads s vs first digits code None is body allows = absurd (grind (arith, allows.1))
  vector_leads s vs first digits code (Some d) is body allows =
      let tests : first_fault (digit_tests digits (Some d)) ≡ None = rw is at allows.1 in
      change_leads a s vs (vector first digits code) code (letters_of_digits digits) d body is (λ e left same.
      reaches_one _ _ _ ((and_parts _ _ allows.0).1, rw left (same_digit_tests digits d e same tests)) (ap (λ m. at a s
      (vs ++ m)) (own_more s vs code (letters_of_digits digits) d e left same)))

  -- an item that changes nothing
  other_leads : (s : ParseState) (vs : List ValueChange) (i : Item) → InBody a s vs → Allows (at a s vs) i
      → state_after_item (at a s vs) i ≡ at a s vs → Leads a s vs (i ∷ []) s
  other_leads s vs i body allowed same = record {
    value_changes = vs;
    leads = reaches_one _ _ _ allowed same;
    body = body;
  }

  -- a change of a real or a string is of a skipped variable, or means nothing
  real_leads : (s : ParseState) (vs : List ValueChange) (first : ℕ) (text code : List ℕ)
      (left : Option VariableDeclaration) → first_with_code code (ours a s) ≡ left → InBody a s vs
      → Allows s (real_or_string first text code)
      → Leads a s vs (items_in_place (if is_some left then stands else is_left_out) (real_or_string first text code)) s
  real_leads s vs first text code None is body allows =
      record { value_changes = vs; leads = reaches_none (at a s vs); body = body }
  real_leads s vs first text code (Some e) is body allows =
      other_leads s vs (real_or_string first text code) body ((and_parts _ _ allows.0).1, rw is refl) refl

  -- none of these can stand among the changes
  not_in_body : (b c : Bool) → b ≡ true → IsTrue (not b && c) → ⊥
  not_in_body b c is fits = grind (arith, false≢true)

  pub item_leads : (none_yet : Bool) (s : ParseState) (vs : List ValueChange) (i : Item) → InBody a s vs → Allows s i
      → (s.tick < (state_after_item s i).tick → IsOldAt s s.tick)
      → Leads a s vs (inserted_items a none_yet s i ++ items_in_place (item_fate a s i) i) (state_after_item s i)
  item_leads none_yet s vs (entry kind words) body allows old = absurd (not_in_body _ _ body.in_body allows.0)
  item_leads none_yet s vs (timescale words) body allows old = absurd (not_in_body _ _ body.in_body allows.0)
  item_leads none_yet s vs (scope kind words) body allows old = absurd (not_in_body _ _ body.in_body allows.0)
  item_leads none_yet s vs upscope body allows old = absurd (not_in_body _ _ body.in_body allows.0)
  item_leads none_yet s vs (variable words) body allows old = absurd (not_in_body _ _ body.in_body allows.0)
  item_leads none_yet s vs end_definitions body allows old = absurd (grind (arith, false≢true, allows.0, body.in_body))
  item_leads none_yet s vs (stamp digits) body allows old = stamp_leads none_yet s vs digits body allows old
  item_leads none_yet s vs (scalar digit code) body allows old =
      scalar_leads s vs digit code (first_with_code code s.declared) refl body allows
  item_leads none_yet s vs (vector first digits code) body allows old =
      vector_leads s vs first digits code (first_with_code code s.declared) refl body allows
  item_leads none_yet s vs (real_or_string first text code) body allows old =
      real_leads s vs first text code (first_with_code code (ours a s)) refl body allows
  item_leads none_yet s vs (dump_word word) body allows old =
      other_leads s vs (dump_word word) body ((and_parts _ _ allows.0).1, refl) refl
  item_leads none_yet s vs (other word words) body allows old =
      other_leads s vs (other word words) body (rw body.in_body at allows.0, refl) refl

  -- ---- all items

  -- after all items, and what is due at the last tick, this holds for every tick
  pub record LeadsOn (s : ParseState) (vs : List ValueChange) (items : List Item) (t : ParseState) : Type 0 where
    pub value_changes : List ValueChange
    pub leads : Reaches (at a s vs) items (at a t value_changes)
    pub holds : Holds a t.declared t.value_changes (t.tick + 1) value_changes

  pub all_lead : (none_yet : Bool) (s : ParseState) (vs : List ValueChange) (is : List Item) → InBody a s vs
      → AllowsAll s is
      → ((u : ℕ) → u ≤ (state_after s is).tick → IsOldAt (state_after s is) u)
      → LeadsOn s vs (amended_items a none_yet s is) (state_after s is)
  unfolding amended_items
  all_lead none_yet s vs [] body allows old = record {
    value_changes = vs ++ due_at s s.tick;
    leads = all_due_lead (rescoped a s) (ours a s) a.codes vs s.tick body.serves.takes;
    holds = one_tick s body.serves vs s.tick (λ code c found some. old s.tick (omega arith) code c found)
        (λ code. body.past
        code (s.tick + 1) (omega arith)) body.holds;
  }
  all_lead none_yet s vs (i ∷ is) body allows old =
      let next : ParseState = state_after_item s i in
      let kept = all_keep next is allows.1 in
      let here = item_leads none_yet s vs i body allows.0 (λ rises code c found. sym (kept_at rises code c)
      ∙ old s.tick (omega (arith, rises, kept.later)) code c found) in
      let rest = all_lead (still_none_yet none_yet (item_fate a s i) i) next here.value_changes is here.body allows.1
      old in
      record {
        value_changes = rest.value_changes;
        leads = reaches_both _ _ _ _ _ here.leads rest.leads;
        holds = rest.holds;
      }
    where
      -- the values at this tick stay, if a later stamp comes now
      kept_at : s.tick < (state_after_item s i).tick → (code : List ℕ) (c : AmendedCode)
          → value_by c.width (of_code code (state_after s (i ∷ is)).value_changes) s.tick
          ≡ value_by c.width (of_code code s.value_changes) s.tick
      kept_at rises code c = (all_keep (state_after_item s i) is allows.1).same c.width code s.tick rises
          ∙ now_same i rises c.width code
        where
          now_same : (i : Item) → s.tick < (state_after_item s i).tick → (width : ℕ) (code : List ℕ)
              → value_by width (of_code code (state_after_item s i).value_changes) s.tick
              ≡ value_by width (of_code code s.value_changes) s.tick
          now_same (entry kind words) rises width code = refl
          now_same (timescale words) rises width code = refl
          now_same (scope kind words) rises width code = refl
          now_same upscope rises width code = refl
          now_same (variable words) rises width code = refl
          now_same end_definitions rises width code = refl
          now_same (stamp digits) rises width code = refl
          now_same (scalar digit k) rises width code = absurd (omega arith)
          now_same (vector first digits k) rises width code = absurd (omega arith)
          now_same (real_or_string first text k) rises width code = refl
          now_same (dump_word word) rises width code = refl
          now_same (other word words) rises width code = refl
