-- The changes of an amended file are allowed, and its value changes are those of the file for each code
-- that is not amended, and have the values of the new wave for each one that is.
use Rattle.std.proofs.Common.{◌≡◌, ℕ, ◌<◌, Bool, true, false, ◌==◌, List, [], ◌∷◌, ◌++◌, length, Option, Some, None}
use Rattle.std.proofs.Common.{◌∙◌, All, refl, sym, ap, arith, inl, inr, subst, if◌then◌else◌, not, ◌&&◌}
use Rattle.std.specs.Prelude.{bytes_eq, is_some}
use Rattle.std.specs.List.{flat_map}
use Rattle.std.proofs.lemmas.Bool.{cases_Bool, ne_eqb, or_from}
use Rattle.std.proofs.lemmas.List.{append-nil}
use Rattle.std.proofs.lemmas.List.Folds.{list_any-append}
use Rattle.std.proofs.lemmas.Option.{same_Some}
use Rattle.vcd_core.specs.declared.bit.Bit.{Bit}
use Rattle.vcd_core.specs.Tests.{first_fault}
use Rattle.vcd_text.specs.Items.{Item}
use Rattle.vcd_text.specs.Grammar.{ValueChange, VariableDeclaration, ParseState, is_skipped, value_changes_after}
use Rattle.vcd_text.specs.Grammar.{digit_tests}
use Rattle.vcd_text.proofs.shared.ItemsInTurn.{Reaches, reaches_none}
use Rattle.vcd_amend.specs.Amendment.{Amendment, AmendedCode, amended_variables, first_with_code, amended_code}
use Rattle.vcd_amend.specs.Amendment.{new_value, changes_stand, needs_change}
use Rattle.vcd_amend.specs.AmendedItems.{is_left_out, items_in_place, file_has_change, due_items, exchange_for}
use Rattle.vcd_amend.specs.AmendedItems.{value_fate, change_fate}
use Rattle.vcd_amend.specs.AmendedMeaning.{AreApart, class_of}
use Rattle.vcd_amend.proofs.amended.OneCode.{of_code, same_bytes, of_both, of_own, of_other, bytes_turned, value_by}
use Rattle.vcd_amend.proofs.amended.OneCode.{value_early, any_at, of, new_change, due_changes, HoldsNew, change_stands}
use Rattle.vcd_amend.proofs.amended.OneCode.{change_goes, wave_is_wide}
use Rattle.vcd_amend.proofs.shared.Lists.{found_has, found_is}
use Rattle.vcd_amend.proofs.amended.Due.{body_of, scopes_left, TakesValues, due_of, due_leads}

-- ---- classes

pub same_skipped : (d e : VariableDeclaration) → class_of d ≡ class_of e → is_skipped d ≡ is_skipped e
same_skipped d e same = grind (arith, cases_Bool)

same_size : (d e : VariableDeclaration) → class_of d ≡ class_of e → is_skipped d ≡ false → d.size ≡ e.size
same_size d e same kept = grind (arith, cases_Bool, same_skipped, same_Some)

-- digits that one variable takes, another of its class takes
pub same_digit_tests : (digits : List ℕ) (d e : VariableDeclaration) → class_of d ≡ class_of e
    → first_fault (digit_tests digits (Some d)) ≡ None → first_fault (digit_tests digits (Some e)) ≡ None
same_digit_tests digits d e same passes = grind (arith, cases_Bool, same_skipped, same_size)

-- the variables of an amended file take the changes that stand, and those that are due
pub record Serves (a : Amendment) (theirs : List VariableDeclaration) : Type 0 where
  pub apart : AreApart a.codes
  pub takes : All (TakesValues (amended_variables a theirs)) a.codes
  pub fits : (code : List ℕ) (c : AmendedCode) (d : VariableDeclaration) → amended_code code a.codes ≡ Some c
      → first_with_code code theirs ≡ Some d → class_of d ≡ Some c.width
  pub alike : (code : List ℕ) (d e : VariableDeclaration) → first_with_code code theirs ≡ Some d
      → first_with_code code (amended_variables a theirs) ≡ Some e → class_of d ≡ class_of e

-- ---- what holds for a code

-- its value changes in the amended file, if the file has had these up to a tick
abbrev pub HoldsFor : Option AmendedCode → List ValueChange → ℕ → List ValueChange → Type 0
HoldsFor None xs t ys = ys ≡ xs
HoldsFor (Some c) xs t ys = HoldsNew c xs t ys

-- what is due for it
abbrev pub due_for : Option AmendedCode → ℕ → List ValueChange → List ValueChange
due_for None t xs = []
due_for (Some c) t xs = due_changes c t xs

-- of all that is due at a tick, only what is due for the code is its own
due_own : (s : ParseState) (t : ℕ) (c : AmendedCode) → of_code c.code (due_of s t c) ≡ due_of s t c
due_own s t c = by_test (needs_change c t && not (any_at t (of_code c.code s.value_changes)))
  where
    by_test : (b : Bool) → of_code c.code (if b then new_change c t ∷ [] else [])
        ≡ (if b then new_change c t ∷ [] else [])
    by_test true = of_own (new_change c t)
    by_test false = refl

due_other : (s : ParseState) (t : ℕ) (code : List ℕ) (c : AmendedCode) → bytes_eq code c.code ≡ false
    → of_code code (due_of s t c) ≡ []
due_other s t code c apart = by_test (needs_change c t && not (any_at t (of_code c.code s.value_changes)))
  where
    by_test : (b : Bool) → of_code code (if b then new_change c t ∷ [] else []) ≡ []
    by_test true = of_other code (new_change c t) (bytes_turned c.code code ∙ apart)
    by_test false = refl

pub due_of_code : (s : ParseState) (t : ℕ) (code : List ℕ) (cs : List AmendedCode) → AreApart cs
    → of_code code (flat_map (due_of s t) cs) ≡ due_for (amended_code code cs) t (of_code code s.value_changes)
due_of_code s t code [] apart = refl
due_of_code s t code (c ∷ cs) (first, apart) = of_both code (due_of s t c) (flat_map (due_of s t) cs)
    ∙ elim (cases_Bool (bytes_eq code c.code)) [
      | inl same ↦
          let is : code ≡ c.code = same_bytes code c.code same in
          let none : amended_code code cs ≡ None = ap (λ k. amended_code k cs) is ∙ first in
          rw same (ap (λ l. of_code code (due_of s t c) ++ l) (due_of_code s t code cs apart
          ∙ ap (λ o. due_for o t (of_code code s.value_changes)) none) ∙ append-nil _ ∙ ap (λ k. of_code k (due_of s t
          c)) is ∙ due_own s t c ∙ ap (λ k. due_changes c t (of_code k s.value_changes)) (sym is))
      | inr beside ↦ rw beside (ap (λ l. l ++ of_code code (flat_map (due_of s t) cs)) (due_other s t code c beside)
          ∙ due_of_code s t code cs apart)
    ]

-- ---- what a change adds

-- a value change is of its code alone, and not after the tick
past_more : (code : List ℕ) (xs : List ValueChange) (v : ValueChange) (u : ℕ) → v.tick < u
    → any_at u (of_code code xs) ≡ false → any_at u (of_code code (xs ++ v ∷ [])) ≡ false
past_more code xs v u before none = ap (any_at u) (of_both code xs (v ∷ [])) ∙ list_any-append (λ v. v.tick == u)
    (of_code code xs) _ ∙ or_from _ _ none (elim (cases_Bool (bytes_eq v.code code)) [
      | inl same ↦ rw same (or_from _ _ (ne_eqb v.tick u (omega arith)) refl)
      | inr beside ↦ rw beside refl
    ])

pub early_more : (width : ℕ) (code : List ℕ) (xs : List ValueChange) (v : ValueChange) (u : ℕ) → u < v.tick
    → value_by width (of_code code (xs ++ v ∷ [])) u ≡ value_by width (of_code code xs) u
early_more width code xs v u before = ap (λ l. value_by width l u) (of_both code xs (v ∷ []))
    ∙ elim (cases_Bool (bytes_eq v.code code)) [
      | inl same ↦ rw same (value_early width (of_code code xs) v u before)
      | inr beside ↦ rw beside (ap (λ l. value_by width l u) (append-nil (of_code code xs)))
    ]

-- what is due is in the place of a change that goes
in_its_place : (s : ParseState) (t : ℕ) (c : AmendedCode) (i : Item) → items_in_place (exchange_for (due_items s t c)) i
    ≡ due_items s t c
in_its_place s t c i = by_test (needs_change c t && not (file_has_change s c.code t)) _
  where
    by_test : (b : Bool) (j : Item) → items_in_place (exchange_for (if b then j ∷ [] else [])) i
        ≡ (if b then j ∷ [] else [])
    by_test true j = refl
    by_test false j = refl

module _ (a : Amendment) where
  abbrev pub ours : ParseState → List VariableDeclaration
  ours s = amended_variables a s.declared

  -- the state of the file, with the scopes that are open in the amended file
  abbrev pub rescoped : ParseState → ParseState
  rescoped s = record s { scopes = scopes_left a.added s.scopes }

  -- the state of the amended file
  abbrev pub at : ParseState → List ValueChange → ParseState
  at s vs = body_of (rescoped s) (ours s) vs s.tick

  -- for each code of the amended file, if the file has had these value changes up to a tick
  abbrev pub Holds : List VariableDeclaration → List ValueChange → ℕ → List ValueChange → Type 0
  Holds declared xs t vs = (code : List ℕ) (e : VariableDeclaration)
      → first_with_code code (amended_variables a declared) ≡ Some e
      → HoldsFor (amended_code code a.codes) (of_code code xs) t (of_code code vs)

  -- the file is among its changes
  pub record InBody (s : ParseState) (vs : List ValueChange) : Type 0 where
    pub in_body : s.in_body ≡ true
    pub past : (code : List ℕ) (u : ℕ) → s.tick < u → any_at u (of_code code s.value_changes) ≡ false
    pub serves : Serves a s.declared
    pub holds : Holds s.declared s.value_changes s.tick vs

  -- after the items in the place of an item this holds again
  pub record Leads (s : ParseState) (vs : List ValueChange) (items : List Item) (t : ParseState) : Type 0 where
    pub value_changes : List ValueChange
    pub leads : Reaches (at s vs) items (at t value_changes)
    pub body : InBody t value_changes

  -- the new wave of an amended code has its width
  pub wide_of : (s : ParseState) → Serves a s.declared → (code : List ℕ) (c : AmendedCode) → amended_code code a.codes
      ≡ Some c
      → (t : ℕ) → length (new_value c t) ≡ c.width
  wide_of s serves code c is t = wave_is_wide c.width c.new t (found_has (TakesValues (ours s)) _ a.codes c serves.takes
      is).wave

  -- ---- a change

  module _ (s : ParseState) (vs : List ValueChange) (i : Item) (k : List ℕ) (letters : List Bit)
      (d : VariableDeclaration) (body : InBody s vs) (found : first_with_code k s.declared ≡ Some d) where
    abbrev v : ValueChange
    v = of s.tick k letters

    -- what it adds, if its variable is skipped or not
    abbrev more : Bool → List ValueChange
    more skipped = if skipped then [] else v ∷ []

    more_other : (skipped : Bool) (code : List ℕ) → bytes_eq k code ≡ false → of_code code (more skipped) ≡ []
    more_other true code apart = refl
    more_other false code apart = of_other code v apart

    past_after : (skipped : Bool) (code : List ℕ) (u : ℕ) → s.tick < u
        → any_at u (of_code code (s.value_changes ++ more skipped)) ≡ false
    past_after true code u later = rw (append-nil s.value_changes) (body.past code u later)
    past_after false code u later = past_more code s.value_changes v u later (body.past code u later)

    -- the amended file adds these
    after : (skipped : Bool) (o : Option AmendedCode) → amended_code k a.codes ≡ o → (own : List ValueChange)
        → ((code : List ℕ) → bytes_eq k code ≡ false → of_code code own ≡ [])
        → ((e : VariableDeclaration) → first_with_code k (ours s) ≡ Some e
        → HoldsFor o (of_code k (s.value_changes ++ more skipped)) s.tick (of_code k (vs ++ own)))
        → InBody (record s { value_changes = s.value_changes ++ more skipped }) (vs ++ own)
    after skipped o is own alone here = record {
      in_body = body.in_body;
      past = past_after skipped;
      serves = body.serves;
      holds = λ code e left. elim (cases_Bool (bytes_eq k code)) [
        | inl same ↦
            let it : k ≡ code = same_bytes k code same in
            subst (λ c. first_with_code c (ours s) ≡ Some e → HoldsFor (amended_code c a.codes)
            (of_code c (s.value_changes
            ++ more skipped)) s.tick (of_code c (vs ++ own))) it (λ first. subst (λ p. HoldsFor p (of_code k
            (s.value_changes ++ more skipped)) s.tick (of_code k (vs ++ own))) (sym is) (here e first)) left
        | inr beside ↦
            let theirs : of_code code s.value_changes ≡ of_code code (s.value_changes ++ more skipped) = sym
            (of_both code s.value_changes (more skipped) ∙ ap (λ l. of_code code s.value_changes ++ l) (more_other
            skipped code beside)
            ∙ append-nil _) in
            let new : of_code code vs ≡ of_code code (vs ++ own) = sym (of_both code vs own ∙ ap (λ l. of_code code vs
            ++ l) (alone code beside) ∙ append-nil _) in
            subst (λ xs. HoldsFor (amended_code code a.codes) xs s.tick (of_code code (vs ++ own))) theirs (subst (λ ys.
            HoldsFor (amended_code code a.codes) (of_code code s.value_changes) s.tick ys) new (body.holds code e left))
      ];
    }

    abbrev next : Bool → ParseState
    next skipped = record s { value_changes = s.value_changes ++ more skipped }

    -- the code is not left
    goes : (skipped : Bool) → first_with_code k (ours s) ≡ None → Leads s vs [] (next skipped)
    goes skipped gone = record {
      value_changes = vs;
      leads = reaches_none (at s vs);
      body = subst (InBody (next skipped)) (append-nil vs) (after skipped (amended_code k a.codes) refl []
          (λ code apart.
          refl) (λ e first. let never : None ≡ Some e = sym gone ∙ first in absurd (cc)));
    }

    -- the code is not amended, and the change stands
    not_amended : (skipped : Bool) (e : VariableDeclaration) → first_with_code k (ours s) ≡ Some e
        → amended_code k a.codes ≡ None
        → Reaches (at s vs) (i ∷ []) (at s (vs ++ more skipped)) → Leads s vs (i ∷ []) (next skipped)
    not_amended skipped e left none taken = record {
      value_changes = vs ++ more skipped;
      leads = taken;
      body = after skipped None none (more skipped) (more_other skipped) (λ f first. of_both k vs (more skipped)
          ∙ ap (λ l.
          l ++ of_code k (more skipped)) (same f first) ∙ sym (of_both k s.value_changes (more skipped)));
    }
      where
        same : (f : VariableDeclaration) → first_with_code k (ours s) ≡ Some f → of_code k vs
            ≡ of_code k s.value_changes
        same f first = subst (λ o. HoldsFor o (of_code k s.value_changes) s.tick (of_code k vs)) none
            (body.holds k f first)

    -- the code is amended
    module _ (c : AmendedCode) (is : amended_code k a.codes ≡ Some c) where
      coded : k ≡ c.code
      coded = same_bytes k c.code (found_is (λ (c : AmendedCode). bytes_eq k c.code) a.codes c is)

      held : (f : VariableDeclaration) → first_with_code k (ours s) ≡ Some f
          → HoldsNew c (of_code k s.value_changes) s.tick (of_code k vs)
      held f first = subst (λ o. HoldsFor o (of_code k s.value_changes) s.tick (of_code k vs)) is (body.holds k f first)

      wide : (t : ℕ) → length (new_value c t) ≡ c.width
      wide = wide_of s body.serves k c is

      their_own : of_code k (s.value_changes ++ v ∷ []) ≡ of_code k s.value_changes ++ v ∷ []
      their_own = of_both k s.value_changes (v ∷ []) ∙ ap (λ l. of_code k s.value_changes ++ l) (of_own v)

      -- the change stands
      amended_stands : changes_stand c s.tick ≡ true → Reaches (at s vs) (i ∷ []) (at s (vs ++ v ∷ []))
          → Leads s vs (i ∷ []) (next false)
      amended_stands agrees taken = record {
        value_changes = vs ++ v ∷ [];
        leads = taken;
        body = after false (Some c) is (v ∷ []) (more_other false) (λ f first. subst (λ xs. HoldsNew c xs s.tick
            (of_code k (vs ++ v ∷ []))) (sym their_own) (subst (HoldsNew c (of_code k s.value_changes ++ v ∷ []) s.tick)
            (sym (of_both k vs (v ∷ []) ∙ ap (λ l. of_code k vs ++ l) (of_own v))) (change_stands c wide (of_code k
            s.value_changes)
            (of_code k vs) s.tick (held f first) v refl agrees)));
      }

      -- what is due is in its place
      amended_goes : changes_stand c s.tick ≡ false → Leads s vs (due_items s s.tick c) (next false)
      amended_goes differs = record {
        value_changes = vs ++ due_of s s.tick c;
        leads = due_leads (rescoped s) (ours s) c vs s.tick (found_has (TakesValues (ours s)) _ a.codes c
            body.serves.takes is);
        body = after false (Some c) is (due_of s s.tick c) (λ code apart. due_other s s.tick code c (ap (bytes_eq code)
            (sym coded) ∙ bytes_turned code k ∙ apart)) (λ f first. subst (λ xs. HoldsNew c xs s.tick (of_code k (vs
            ++ due_of s s.tick c))) (sym their_own) (subst (HoldsNew c (of_code k s.value_changes ++ v ∷ []) s.tick)
            (sym our_own) (change_goes c wide (of_code k s.value_changes) (of_code k vs) s.tick (held f first) v refl
            differs)));
      }
        where
          our_own : of_code k (vs ++ due_of s s.tick c) ≡ of_code k vs ++ due_changes c s.tick
              (of_code k s.value_changes)
          our_own = of_both k vs (due_of s s.tick c) ∙ ap (λ l. of_code k vs ++ l) (ap (λ n. of_code n
              (due_of s s.tick c)) coded ∙ due_own s s.tick c ∙ ap (λ n. due_changes c s.tick (of_code n
              s.value_changes)) (sym coded))

    module _ (taken : (e : VariableDeclaration) → first_with_code k (ours s) ≡ Some e → class_of d ≡ class_of e
        → Reaches (at s vs) (i ∷ []) (at s (vs ++ more (is_skipped d)))) where
      by_code : (left : Option VariableDeclaration) → first_with_code k (ours s) ≡ left → (o : Option AmendedCode)
          → amended_code k a.codes ≡ o → (skipped : Bool) → is_skipped d ≡ skipped
          → Leads s vs (items_in_place (if is_some left then value_fate s o else is_left_out) i) (next skipped)
      by_code None gone o is skipped skips = goes skipped gone
      by_code (Some e) left None none skipped skips = not_amended skipped e left none (subst
          (λ b. Reaches (at s vs) (i ∷ []) (at s (vs ++ more b))) skips (taken e left (body.serves.alike k d e found
          left)))
      by_code (Some e) left (Some c) is true skips =
          let class : class_of d ≡ Some c.width = body.serves.fits k c d is found in
          let never : None ≡ Some c.width = rw skips at class in absurd (cc)
      by_code (Some e) left (Some c) is false kept = elim (cases_Bool (changes_stand c s.tick)) [
        | inl agrees ↦ rw agrees (amended_stands c is agrees (subst (λ b. Reaches (at s vs) (i ∷ [])
            (at s (vs ++ more b))) kept (taken e left (body.serves.alike k d e found left))))
        | inr differs ↦ rw differs (subst (λ l. Leads s vs l (next false)) (sym (in_its_place s s.tick c i))
            (amended_goes c is differs))
      ]

      pub change_leads : Leads s vs (items_in_place (change_fate a s k) i)
          (record s {
            value_changes = s.value_changes ++ value_changes_after s k letters (first_with_code k s.declared);
          })
      change_leads = subst (λ l. Leads s vs (items_in_place (change_fate a s k) i) (record s {
        value_changes = s.value_changes
            ++ l;
      })) (sym (ap (value_changes_after s k letters) found)) (by_code (first_with_code k (ours s)) refl (amended_code k
          a.codes) refl (is_skipped d) refl)
