-- A change to digits while a file is amended.
use Rattle.std.proofs.Common.{◌≡◌, ◌<◌, ◌≤◌, ◌+◌, ◌-◌, ◌==◌, ◌&&◌, ◌||◌, not, ℕ, zero, suc, Bool, true, false, List, []}
use Rattle.std.proofs.Common.{◌∷◌, ◌++◌, length, find, Option, Some, None, refl, sym, ap, ap₂, ◌∙◌, arith, cond, inl}
use Rattle.std.proofs.Common.{inr}
use Rattle.std.proofs.Common.{if◌then◌else◌, subst}
use Rattle.std.specs.Prelude.{bytes_eq, slice_index_or, unwrap_or}
use Rattle.std.specs.List.{filter, list_any, position_from, join_with_byte}
use Rattle.std.specs.Option.{option_map}
use Rattle.std.specs.Global.{Vec}
use Rattle.std.proofs.Math.Bool.{or-false, or-true}
use Rattle.std.proofs.lemmas.Bool.{cases_Bool, cases_eq, eq-eqb, ne_eqb, false≢true}
use Rattle.std.proofs.lemmas.List.{with_items_is}
use Rattle.std.specs.Vec.{with_items}
use Rattle.std.proofs.lemmas.List.Elements.{filter-append}
use Rattle.std.proofs.lemmas.List.Folds.{list_any-append}
use Rattle.std.proofs.lemmas.Slice.Eq.{bytes_eq-Decides}
use Rattle.vcd_core.specs.declared.bit.Bit.{Bit}
use Rattle.vcd_text.specs.Items.{spelling}
use Rattle.vcd_text.specs.Grammar.{ParseState, ValueChange, VariableDeclaration, is_skipped, variable_of}
use Rattle.vcd_text.specs.Grammar.{value_changes_after, with_value_change}
use Rattle.vcd_copy.specs.Pieces.{Piece}
use Rattle.vcd_text.specs.Text.{value_item}
use Rattle.vcd_text.specs.inside.reading.CodeTargets.{code_target}
use Rattle.vcd_amend.specs.Amendment.{AmendedCode, Amendment, is_used, changes_stand, needs_change, new_value}
use Rattle.vcd_amend.specs.AmendedItems.{ItemFate, stands, is_left_out, file_has_change, change_fate, value_fate}
use Rattle.vcd_amend.specs.AmendedItems.{exchange_for, due_items, leaves_out}
use Rattle.vcd_amend.specs.AmendedMeaning.{AreApart}
use Rattle.vcd_amend.specs.AmendedText.{bytes_in_place, exchanged_bytes}
use Rattle.vcd_amend.specs.AmendmentContents.{amendment_contents}
use Rattle.vcd_amend.specs.inside.amending.CodeUses.{amended_index}
use Rattle.vcd_amend.specs.inside.amending.CodeProgress.{ProgressMatches, AllProgressMatches, no_progress, noted_change}
use Rattle.vcd_amend.specs.inside.amending.DueChanges.{is_last, no_code}
use Rattle.vcd_amend.specs.inside.amending.FileAmender.{IsAt}
use Rattle.vcd_amend.specs.inside.amending.ValueChanges.{value_text, is_written, text_in_place, is_due_now}
use Rattle.vcd_amend.specs.declared.amending.code_progress.CodeProgress.{CodeProgress}
use Rattle.vcd_amend.specs.declared.amending.file_amender.FileAmender.{FileAmender}
use Rattle.vcd_amend.specs.declared.amending.moments.ChangeCounts.{ChangeCounts}

-- ---- the amended code at an index

abbrev pub code_of_index : List AmendedCode → ℕ → AmendedCode
code_of_index cs k = slice_index_or cs k no_code

pub not_found_by : (code : List ℕ) (cs : List AmendedCode) (k : ℕ) → find (λ (x : AmendedCode). bytes_eq code x.code) cs
    ≡ None
    → k < length cs → bytes_eq code (code_of_index cs k).code ≡ false
not_found_by code [] k none within = absurd (omega (arith, within))
not_found_by code (c ∷ cs) k none within = elim (cases_Bool (bytes_eq code c.code)) [
  | inl has ↦ let both = ap (λ b. cond b (Some c) (find (λ (x : AmendedCode). bytes_eq code x.code) cs)) (sym has) ∙
      none in absurd (cc)
  | inr lacks ↦ by_index k within lacks (λ j inside. not_found_by code cs j
      (ap (λ b. cond b (Some c) (find (λ (x : AmendedCode). bytes_eq code x.code) cs)) (sym lacks) ∙ none) inside)
]
  where
    by_index : (j : ℕ) → j < length (c ∷ cs) → bytes_eq code c.code ≡ false
        → ((i : ℕ) → i < length cs → bytes_eq code (code_of_index cs i).code ≡ false)
        → bytes_eq code (code_of_index (c ∷ cs) j).code ≡ false
    by_index zero inside lacks rest = lacks
    by_index (suc i) inside lacks rest = rest i (omega arith)

module _ (code : List ℕ) where
  abbrev is_code : AmendedCode → Bool
  is_code c = bytes_eq code c.code

  pub index_none : (cs : List AmendedCode) (start : ℕ) → position_from is_code start cs ≡ None → find is_code cs ≡ None
  index_none [] start none = refl
  index_none (c ∷ cs) start none = elim (cases_Bool (is_code c)) [
    | inl has ↦ let both = ap (λ b. cond b (Some start) (position_from is_code (start + 1) cs)) (sym has) ∙ none in
        absurd (cc)
    | inr lacks ↦ ap (λ b. cond b (Some c) (find is_code cs)) lacks
        ∙ index_none cs (start + 1) (ap (λ b. cond b (Some start) (position_from is_code (start + 1) cs)) (sym lacks) ∙
        none)
  ]

  -- where it is found
  pub record IsFound (cs : List AmendedCode) (start i : ℕ) : Type 0 where
    pub from : start ≤ i
    pub within : i < start + length cs
    pub found : find is_code cs ≡ Some (code_of_index cs (i - start))
    pub only : (k : ℕ) → k < length cs → is_code (code_of_index cs k) ≡ (start + k == i)

  pub index_some : (cs : List AmendedCode) (start i : ℕ) → AreApart cs → position_from is_code start cs ≡ Some i
      → IsFound cs start i
  index_some [] start i apart is = let never : None ≡ Some i = is in absurd (cc)
  index_some (c ∷ cs) start i (first, apart) is = elim (cases_Bool (is_code c)) [
    | inl has ↦
        let here = ap (λ b. cond b (Some start) (position_from is_code (start + 1) cs)) (sym has) ∙ is in
        let same : start ≡ i = cc in
        let index : i - start ≡ 0 = omega (arith, same) in
        record {
          from = omega (arith, same);
          within = omega (arith, same);
          found = ap (λ b. cond b (Some c) (find is_code cs)) has ∙ ap (λ k. Some (code_of_index (c ∷ cs) k))
              (sym index);
          only = λ k inside. by_first k inside has same;
        }
    | inr lacks ↦
        let rest = index_some cs (start + 1) i apart (ap (λ b. cond b (Some start) (position_from is_code (start + 1)
        cs)) (sym lacks) ∙ is) in
        let index : suc (i - (start + 1)) ≡ i - start = omega (arith, rest.from) in
        record {
          from = omega (arith, rest.from);
          within = omega (arith, rest.within);
          found = ap (λ b. cond b (Some c) (find is_code cs)) lacks ∙ rest.found ∙ ap
              (λ k. Some (code_of_index (c ∷ cs) k)) index;
          only = λ k inside. by_later k inside lacks rest.from rest.only;
        }
  ]
    where
      by_first : (k : ℕ) → k < length (c ∷ cs) → is_code c ≡ true → start ≡ i
          → is_code (code_of_index (c ∷ cs) k) ≡ (start + k == i)
      by_first zero inside has same = has ∙ sym (eq-eqb (start + 0) i (omega (arith, same)))
      by_first (suc k) inside has same =
          let own : code ≡ c.code = (bytes_eq-Decides code c.code).0 has in
          ap (λ w. bytes_eq w (code_of_index cs k).code) own
          ∙ not_found_by c.code cs k first (omega arith)
          ∙ sym (ne_eqb (start + suc k) i (λ e. omega (arith, e, same)))

      by_later : (k : ℕ) → k < length (c ∷ cs) → is_code c ≡ false → start + 1 ≤ i
          → ((j : ℕ) → j < length cs → is_code (code_of_index cs j) ≡ (start + 1 + j == i))
          → is_code (code_of_index (c ∷ cs) k) ≡ (start + k == i)
      by_later zero inside lacks past only = lacks ∙ sym (ne_eqb (start + 0) i (λ e. omega (arith, e, past)))
      by_later (suc k) inside lacks past only = only k (omega arith)
          ∙ ap (λ n. n == i) (let e : start + 1 + k ≡ start + suc k = omega arith in e)

-- ---- what the file has had of a code

-- the value changes that a change adds
abbrev added_changes : ParseState → (code : List ℕ) → List Bit → List ValueChange
added_changes s code letters = value_changes_after s code letters (variable_of s code)

abbrev any_at : ℕ → (code : List ℕ) → List ValueChange → Bool
any_at t code vs = list_any (λ v. v.tick == t) (filter (λ v. bytes_eq v.code code) vs)

has_after : (s : ParseState) (code key : List ℕ) (letters : List Bit) (t : ℕ)
    → file_has_change (with_value_change s code letters) key t
    ≡ (file_has_change s key t || any_at t key (added_changes s code letters))
has_after s code key letters t =
    ap (list_any (λ (v : ValueChange). v.tick == t)) (filter-append (λ (v : ValueChange). bytes_eq v.code key)
    s.value_changes (added_changes s code letters))
    ∙ list_any-append (λ (v : ValueChange). v.tick == t) (filter (λ v. bytes_eq v.code key) s.value_changes)
    (filter (λ v. bytes_eq v.code key) (added_changes s code letters))

-- those of another code
other_added : (s : ParseState) (code key : List ℕ) (letters : List Bit) (t : ℕ) (o : Option VariableDeclaration)
    → bytes_eq code key ≡ false → any_at t key (value_changes_after s code letters o) ≡ false
other_added s code key letters t None apart = refl
other_added s code key letters t (Some d) apart = by_skip (is_skipped d)
  where
    v : ValueChange
    v = record { tick = s.tick; code = code; letters = letters }

    by_skip : (b : Bool) → any_at t key (if b then [] else v ∷ []) ≡ false
    by_skip true = refl
    by_skip false = ap (λ (b : Bool). list_any (λ (x : ValueChange). x.tick == t) (cond b (v ∷ []) [])) apart

other_progress : (s : ParseState) (c : AmendedCode) (p : CodeProgress) (code : List ℕ) (letters : List Bit)
    → ProgressMatches s c p → bytes_eq code c.code ≡ false → ProgressMatches (with_value_change s code letters) c p
other_progress s c p code letters before apart = record {
  kept = before.kept;
  passed = before.passed;
  changes = λ t from. has_after s code c.code letters t
      ∙ ap₂ (λ a b. a || b) (before.changes t from) (other_added s code c.code letters t (variable_of s code) apart)
      ∙ or-false (is_last p.changed_at t);
}

-- its own, if no variable of it is kept
own_unkept : (s : ParseState) (c : AmendedCode) (p : CodeProgress) (code : List ℕ) (letters : List Bit)
    → ProgressMatches s c p → added_changes s code letters ≡ [] → unwrap_or p.is_kept false ≡ false
    → ProgressMatches (with_value_change s code letters) c (noted_change s.tick p)
own_unkept s c p code letters before none unkept = record {
  kept = before.kept;
  passed = λ t at. before.passed t (sym (ap (λ (b : Bool). if b then Some s.tick else p.changed_at) unkept) ∙ at);
  changes = λ t from. has_after s code c.code letters t
      ∙ ap₂ (λ a vs. a || any_at t c.code vs) (before.changes t from) none ∙ or-false (is_last p.changed_at t)
      ∙ ap (λ o. is_last o t) (sym (ap (λ (b : Bool). if b then Some s.tick else p.changed_at) unkept));
}

-- its own, if one is
before_or_at : (o : Option ℕ) (now t : ℕ) → ((u : ℕ) → o ≡ Some u → u ≤ now) → now ≤ t
    → (is_last o t || ((now == t) || false)) ≡ (now == t)
before_or_at None now t passed from = or-false (now == t)
before_or_at (Some u) now t passed from = elim (cases_eq now t) [
  | inl same ↦ ap (λ b. (u == t) || (b || false)) (eq-eqb now t same) ∙ or-true (u == t) ∙ sym (eq-eqb now t same)
  | inr apart ↦ ap₂ (λ a b. a || (b || false)) (ne_eqb u t (λ e. omega (arith, e, passed u refl, apart, from)))
      (ne_eqb now t apart) ∙ sym (ne_eqb now t apart)
]

own_kept : (s : ParseState) (c : AmendedCode) (p : CodeProgress) (code : List ℕ) (letters : List Bit)
    → ProgressMatches s c p → bytes_eq code c.code ≡ true
    → added_changes s code letters ≡ record { tick = s.tick; code = code; letters = letters } ∷ []
    → unwrap_or p.is_kept false ≡ true
    → ProgressMatches (with_value_change s code letters) c (noted_change s.tick p)
own_kept s c p code letters before same one is_kept =
    let now : (noted_change s.tick p).changed_at ≡ Some s.tick = ap
    (λ (b : Bool). if b then Some s.tick else p.changed_at) is_kept in
    let v : ValueChange = record { tick = s.tick; code = code; letters = letters } in
    record {
      kept = before.kept;
      passed = λ t at. let both = sym now ∙ at in let e : s.tick ≡ t = cc in omega (arith, e);
      changes = λ t from. has_after s code c.code letters t
          ∙ ap₂ (λ a vs. a || any_at t c.code vs) (before.changes t from) one
          ∙ ap (λ (b : Bool). is_last p.changed_at t || list_any (λ (x : ValueChange). x.tick == t)
          (cond b (v ∷ []) [])) same
          ∙ before_or_at p.changed_at s.tick t before.passed from ∙ ap (λ o. is_last o t) (sym now);
    }

own_progress : (s : ParseState) (c : AmendedCode) (p : CodeProgress) (code : List ℕ) (letters : List Bit)
    → ProgressMatches s c p → bytes_eq code c.code ≡ true
    → ProgressMatches (with_value_change s code letters) c (noted_change s.tick p)
own_progress s c p code letters before same = by_variable (variable_of s code) refl
  where
    by_variable : (o : Option VariableDeclaration) → variable_of s code ≡ o
        → ProgressMatches (with_value_change s code letters) c (noted_change s.tick p)
    by_variable None is =
        let kept = before.kept ∙ ap (λ k. option_map (λ (d : VariableDeclaration). not (is_skipped d)) (variable_of s
        k))
        (sym ((bytes_eq-Decides code c.code).0 same)) ∙ ap (option_map (λ (d : VariableDeclaration). not (is_skipped
        d))) is in
        own_unkept s c p code letters before (ap (value_changes_after s code letters) is)
        (ap (λ o. unwrap_or o false) kept)
    by_variable (Some d) is =
        let kept = before.kept ∙ ap (λ k. option_map (λ (d : VariableDeclaration). not (is_skipped d)) (variable_of s
        k))
        (sym ((bytes_eq-Decides code c.code).0 same)) ∙ ap (option_map (λ (d : VariableDeclaration). not (is_skipped
        d))) is in
        let v : ValueChange = record { tick = s.tick; code = code; letters = letters } in
        elim (cases_Bool (is_skipped d)) [
          | inl skips ↦ own_unkept s c p code letters before
              (ap (value_changes_after s code letters) is ∙ ap (λ (b : Bool). if b then [] else v ∷ []) skips)
              (ap (λ o. unwrap_or o false) kept ∙ ap not skips)
          | inr keeps ↦ own_kept s c p code letters before same
              (ap (value_changes_after s code letters) is ∙ ap (λ (b : Bool). if b then [] else v ∷ []) keeps)
              (ap (λ o. unwrap_or o false) kept ∙ ap not keeps)
        ]

-- ---- of all codes

values_other : (s : ParseState) (cs : List AmendedCode) (ps : List CodeProgress) (code : List ℕ) (letters : List Bit)
    → amended_index code cs ≡ None → AllProgressMatches s cs ps → AllProgressMatches (with_value_change s code letters)
    cs ps
values_other s cs ps code letters none before = record {
  count = before.count;
  each = λ k within. other_progress s (code_of_index cs k) _ code letters (before.each k within)
      (not_found_by code cs k (index_none code cs 0 none) within);
}

values_own : (s : ParseState) (cs : List AmendedCode) (ps new : List CodeProgress) (code : List ℕ) (letters : List Bit)
    (i : ℕ) → AreApart cs → amended_index code cs ≡ Some i → length new ≡ length ps
    → ((k : ℕ) → k < length ps → slice_index_or new k no_progress
    ≡ (if k == i then noted_change s.tick (slice_index_or ps k no_progress) else slice_index_or ps k no_progress))
    → AllProgressMatches s cs ps → AllProgressMatches (with_value_change s code letters) cs new
values_own s cs ps new code letters i apart is long noted before = record {
  count = long ∙ before.count;
  each = λ k within.
      let found = index_some code cs 0 i apart is in
      let c = code_of_index cs k in
      let test : bytes_eq code c.code ≡ (k == i) = found.only k within ∙ ap (λ n. n == i)
      (let e : 0 + k ≡ k = omega arith in e) in
      let p = slice_index_or ps k no_progress in
      let one : ProgressMatches (with_value_change s code letters) c (if k == i then noted_change s.tick p else p) =
      elim (cases_Bool (k == i)) [
        | inl here ↦ subst (λ (b : Bool). ProgressMatches (with_value_change s code letters) c (if b then noted_change
            s.tick p else p))
            (sym here) (own_progress s c p code letters (before.each k within) (test ∙ here))
        | inr there ↦ subst (λ (b : Bool). ProgressMatches (with_value_change s code letters) c (if b then noted_change
            s.tick p else p))
            (sym there) (other_progress s c p code letters (before.each k within) (test ∙ there))
      ] in
      subst (ProgressMatches (with_value_change s code letters) c) (sym (noted k (omega (arith, before.count, within))))
      one;
}

-- ---- the amender after a change

exchanged_value : (p : Piece) (code : List ℕ) (v : List Bit) → exchanged_bytes p (value_item code v)
    ≡ join_with_byte 32 (spelling (value_item code v))
exchanged_value p code [] = refl
exchanged_value p code (b ∷ []) = refl
exchanged_value p code (b ∷ d ∷ v) = refl

module _ (m : FileAmender) (s : ParseState) (none_yet : Bool) (at : IsAt m s none_yet) (code : List ℕ) where
  abbrev amendment : Amendment
  amendment = amendment_contents m.amendment.now

  pub at_other : (letters : List Bit) (now : Bool) → (code_target m.uses code).amended ≡ None
      → IsAt (record m { none_yet = now }) (with_value_change s code letters) now
  at_other letters now none = record {
    fates = at.fates;
    used = at.used;
    amended = at.amended;
    progress = values_other s amendment.codes m.progress.items code letters (sym (at.amended code) ∙ none) at.progress;
    counts = at.counts;
    due = at.due;
    within = at.within;
    apart = at.apart;
    tick = at.tick;
    none_yet = refl;
  }

  pub index_within : (i : ℕ) → (code_target m.uses code).amended ≡ Some i → i < length amendment.codes
  index_within i is = omega (arith, (index_some code amendment.codes 0 i at.apart (sym (at.amended code) ∙ is)).within)

  pub at_own : (letters : List Bit) (now : Bool) (i : ℕ) (counts : Vec ChangeCounts) (progress : Vec CodeProgress)
      → (code_target m.uses code).amended ≡ Some i → length counts.items ≡ length m.counts.items
      → length progress.items ≡ length m.progress.items
      → ((k : ℕ) → k < length m.progress.items → slice_index_or progress.items k no_progress
      ≡ (if k == i then noted_change m.tick (slice_index_or m.progress.items k no_progress)
      else slice_index_or m.progress.items k no_progress))
      → IsAt (record m { counts = counts; progress = progress; none_yet = now }) (with_value_change s code letters) now
  at_own letters now i counts progress is long longer noted = record {
    fates = at.fates;
    used = at.used;
    amended = at.amended;
    progress = values_own s amendment.codes m.progress.items progress.items code letters i at.apart
        (sym (at.amended code) ∙ is) longer (λ k within. noted k within ∙ ap (λ t. if k == i then noted_change t
        (slice_index_or m.progress.items k no_progress) else slice_index_or m.progress.items k no_progress) at.tick)
        at.progress;
    counts = long ∙ at.counts;
    due = at.due;
    within = at.within;
    apart = at.apart;
    tick = at.tick;
    none_yet = refl;
  }

  -- ---- what becomes of it

  pub fate_other : (code_target m.uses code).amended ≡ None
      → change_fate amendment s code ≡ (if (code_target m.uses code).is_used then stands else is_left_out)
  fate_other none =
      ap (λ (o : Option AmendedCode). if is_used amendment s code then value_fate s o else is_left_out)
      (index_none code amendment.codes 0 (sym (at.amended code) ∙ none))
      ∙ ap (λ (b : Bool). if b then stands else is_left_out) (sym (at.used code))

  pub fate_own : (i : ℕ) → (code_target m.uses code).amended ≡ Some i
      → change_fate amendment s code
      ≡ (if (code_target m.uses code).is_used then value_fate s (Some (code_of_index amendment.codes i)) else
      is_left_out)
  fate_own i is =
      ap (λ (o : Option AmendedCode). if is_used amendment s code then value_fate s o else is_left_out)
      ((index_some code amendment.codes 0 i at.apart (sym (at.amended code) ∙ is)).found
      ∙ ap (λ k. Some (code_of_index amendment.codes k)) (let e : i - 0 ≡ i = omega arith in e))
      ∙ ap (λ (b : Bool). if b then value_fate s (Some (code_of_index amendment.codes i)) else is_left_out)
      (sym (at.used code))

  abbrev own_fate : (used does_stand due : Bool) → AmendedCode → ItemFate
  own_fate used does_stand due c = if used then (if does_stand then stands else
      exchange_for (if due then value_item c.code (new_value c s.tick) ∷ [] else [])) else is_left_out

  pub fate_parts : (i : ℕ) → (code_target m.uses code).amended ≡ Some i → change_fate amendment s code
      ≡ own_fate (code_target m.uses code).is_used (changes_stand (code_of_index amendment.codes i) s.tick)
      (is_due_now (code_of_index amendment.codes i) (slice_index_or m.progress.items i no_progress) s.tick)
      (code_of_index amendment.codes i)
  fate_parts i is =
      let c = code_of_index amendment.codes i in
      let used = (code_target m.uses code).is_used in
      fate_own i is ∙ ap (λ b. own_fate used (changes_stand c s.tick) (needs_change c s.tick && not b) c)
      ((at.progress.each i (index_within i is)).changes s.tick (omega arith))

  text_is : (p : Piece) (used does_stand due : Bool) (c : AmendedCode)
      → (if used then text_in_place does_stand due c s.tick p.space p.body else [])
      ≡ bytes_in_place (own_fate used does_stand due c) [] p
  text_is p false does_stand due c = refl
  text_is p true true due c = refl
  text_is p true false true c = ap (λ l. p.space ++ l) (sym (exchanged_value p c.code (new_value c s.tick)))
  text_is p true false false c = refl

  leaves_is : (n used does_stand due : Bool) (c : AmendedCode)
      → (n && not (if used then does_stand || due else false)) ≡ (n && leaves_out (own_fate used does_stand due c))
  leaves_is n false does_stand due c = refl
  leaves_is n true true due c = refl
  leaves_is n true false true c = refl
  leaves_is n true false false c = refl

  pub own_text : (p : Piece) (i : ℕ) → (code_target m.uses code).amended ≡ Some i
      → value_text (code_target m.uses code).is_used (code_of_index amendment.codes i)
      (slice_index_or m.progress.items i no_progress) m.tick p.space p.body
      ≡ bytes_in_place (change_fate amendment s code) [] p
  own_text p i is =
      let c = code_of_index amendment.codes i in
      let q = slice_index_or m.progress.items i no_progress in
      let used = (code_target m.uses code).is_used in
      ap (λ t. value_text used c q t p.space p.body) at.tick
      ∙ text_is p used (changes_stand c s.tick) (is_due_now c q s.tick) c
      ∙ ap (λ f. bytes_in_place f [] p) (sym (fate_parts i is))

  pub own_leaves : (i : ℕ) → (code_target m.uses code).amended ≡ Some i
      → (m.none_yet && not (is_written (code_target m.uses code).is_used (code_of_index amendment.codes i)
      (slice_index_or m.progress.items i no_progress) m.tick))
      ≡ (none_yet && leaves_out (change_fate amendment s code))
  own_leaves i is =
      let c = code_of_index amendment.codes i in
      let q = slice_index_or m.progress.items i no_progress in
      let used = (code_target m.uses code).is_used in
      ap₂ (λ n t. n && not (is_written used c q t)) at.none_yet at.tick
      ∙ leaves_is none_yet used (changes_stand c s.tick) (is_due_now c q s.tick) c
      ∙ ap (λ f. none_yet && leaves_out f) (sym (fate_parts i is))

  other_text_is : (p : Piece) (used : Bool) → (if used then p.space ++ p.body else [])
      ≡ bytes_in_place (if used then stands else is_left_out) [] p
  other_text_is p true = refl
  other_text_is p false = refl

  other_leaves_is : (n used : Bool) → (n && not used) ≡ (n && leaves_out (if used then stands else is_left_out))
  other_leaves_is n true = refl
  other_leaves_is n false = refl

  pub other_text : (p : Piece) → (code_target m.uses code).amended ≡ None
      → (if (code_target m.uses code).is_used then p.space ++ p.body else [])
      ≡ bytes_in_place (change_fate amendment s code) [] p
  other_text p none = other_text_is p (code_target m.uses code).is_used
      ∙ ap (λ f. bytes_in_place f [] p) (sym (fate_other none))

  pub other_leaves : (code_target m.uses code).amended ≡ None
      → (m.none_yet && not (code_target m.uses code).is_used) ≡ (none_yet && leaves_out (change_fate amendment s code))
  other_leaves none = ap (λ n. n && not (code_target m.uses code).is_used) at.none_yet
      ∙ other_leaves_is none_yet (code_target m.uses code).is_used
      ∙ ap (λ f. none_yet && leaves_out f) (sym (fate_other none))

  -- where it stands
  pub stands_other : (code_target m.uses code).is_used ≡ true → (code_target m.uses code).amended ≡ None
      → change_fate amendment s code ≡ stands
  stands_other used none = fate_other none ∙ ap (λ (b : Bool). if b then stands else is_left_out) used

  pub stands_own : (i : ℕ) → (code_target m.uses code).is_used ≡ true → (code_target m.uses code).amended ≡ Some i
      → changes_stand (code_of_index amendment.codes i) m.tick ≡ true → change_fate amendment s code ≡ stands
  stands_own i used is does_stand =
      let c = code_of_index amendment.codes i in
      fate_own i is ∙ ap (λ (b : Bool). if b then value_fate s (Some c) else is_left_out) used
      ∙ ap (λ (b : Bool). if b then stands else exchange_for (due_items s s.tick c))
      (ap (changes_stand c) (sym at.tick) ∙ does_stand)

  -- where nothing is in its place
  pub goes_other : (code_target m.uses code).is_used ≡ false → (code_target m.uses code).amended ≡ None
      → change_fate amendment s code ≡ is_left_out
  goes_other unused none = fate_other none ∙ ap (λ (b : Bool). if b then stands else is_left_out) unused

  none_written : (used does_stand due : Bool) (c : AmendedCode) → (if used then does_stand || due else false) ≡ false
      → own_fate used does_stand due c ≡ is_left_out
  none_written false does_stand due c none = refl
  none_written true true due c none = absurd (false≢true (sym none))
  none_written true false true c none = absurd (false≢true (sym none))
  none_written true false false c none = refl

  pub goes_own : (i : ℕ) → (code_target m.uses code).amended ≡ Some i
      → is_written (code_target m.uses code).is_used (code_of_index amendment.codes i)
      (slice_index_or m.progress.items i no_progress) m.tick ≡ false
      → change_fate amendment s code ≡ is_left_out
  goes_own i is none =
      let c = code_of_index amendment.codes i in
      let p = slice_index_or m.progress.items i no_progress in
      let used = (code_target m.uses code).is_used in
      fate_parts i is ∙ none_written used (changes_stand c s.tick) (is_due_now c p s.tick) c
      (ap (is_written used c p) (sym at.tick) ∙ none)

-- ---- lists that are lent and given back

-- a list keeps its length
pub lent_length : {X : Type 0} (v : Vec X) (lent new : List X) → lent ≡ v.items → length new ≡ length lent
    → length (with_items v new).items ≡ length v.items
lent_length {X} v lent new is long =
    let same : length new ≡ length v.items = long ∙ ap (λ (l : List X). length l) is in
    ap (λ (l : List X). length l) (with_items_is v new (omega (arith, same, v.ok.0))) ∙ same

pub lent_noted : (v : Vec CodeProgress) (lent new : List CodeProgress) (i t : ℕ) → lent ≡ v.items
    → length new ≡ length lent
    → ((k : ℕ) → k < length lent → slice_index_or new k no_progress
    ≡ (if k == i then noted_change t (slice_index_or lent k no_progress) else slice_index_or lent k no_progress))
    → (k : ℕ) → k < length v.items → slice_index_or (with_items v new).items k no_progress
    ≡ (if k == i then noted_change t (slice_index_or v.items k no_progress) else slice_index_or v.items k no_progress)
lent_noted v lent new i t is long noted k within =
    let len = ap (λ (l : List CodeProgress). length l) is in
    ap (λ l. slice_index_or l k no_progress) (with_items_is v new (omega (arith, long, len, v.ok.0)))
    ∙ noted k (omega (arith, within, len))
    ∙ ap (λ l. if k == i then noted_change t (slice_index_or l k no_progress) else slice_index_or l k no_progress) is

pub lent_each : (v : Vec CodeProgress) (lent new : List CodeProgress) (f : ℕ → CodeProgress → CodeProgress) → lent ≡
    v.items
    → length new ≡ length lent
    → ((k : ℕ) → k < length lent → slice_index_or new k no_progress ≡ f k (slice_index_or lent k no_progress))
    → (k : ℕ) → k < length v.items → slice_index_or (with_items v new).items k no_progress
    ≡ f k (slice_index_or v.items k no_progress)
lent_each v lent new f is long noted k within =
    let len = ap (λ (l : List CodeProgress). length l) is in
    ap (λ l. slice_index_or l k no_progress) (with_items_is v new (omega (arith, long, len, v.ok.0)))
    ∙ noted k (omega (arith, within, len)) ∙ ap (λ l. f k (slice_index_or l k no_progress)) is
