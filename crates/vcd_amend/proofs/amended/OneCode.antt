-- The value changes of one code: in the amended file they have the values of its new wave.
use Rattle.std.proofs.Common.{◌≡◌, ℕ, true, false, List, [], ◌∷◌, ◌++◌, refl, arith, inl, inr, Bool, ◌∙◌, sym, ap}
use Rattle.std.proofs.Common.{subst, zero, suc, ◌+◌, ◌<◌, ◌≤◌, ◌==◌, not, ◌&&◌, map, length, nat_le, if◌then◌else◌}
use Rattle.std.specs.Prelude.{bytes_eq}
use Rattle.std.specs.List.{filter, list_any}
use Rattle.std.proofs.lemmas.Bool.{cases_Bool, cases_lt, and_parts, and_from, or_parts, or_right, or_left, le-leb}
use Rattle.std.proofs.lemmas.Bool.{lt-leb, eq-eqb, eqb-false}
use Rattle.std.proofs.lemmas.List.Elements.{filter-append}
use Rattle.std.proofs.lemmas.Slice.Eq.{bytes_eq-Decides}
use Rattle.std.proofs.lemmas.List.{append-nil, map-append, length-replicate}
use Rattle.std.proofs.lemmas.List.Folds.{list_any-append}
use Rattle.vcd_core.specs.declared.bit.Bit.{Bit}
use Rattle.vcd_core.specs.declared.wave.Change.{Change}
use Rattle.vcd_core.specs.Value.{all_x, same_letters}
use Rattle.vcd_core.specs.inside.value.EqualByLetters.{same_letters-Decides}
use Rattle.vcd_core.specs.Wave.{change, value_from, value_at, AreChangesFrom, IsWave}
use Rattle.vcd_core.proofs.shared.Waves.{value_from-append}
use Rattle.vcd_text.specs.Grammar.{ValueChange}
use Rattle.vcd_text.specs.Letters.{extension, short_form}
use Rattle.vcd_text.proofs.read_back.Changes.{found_passes}
use Rattle.vcd_amend.specs.Amendment.{AmendedCode, old_value, new_value, changes_stand, needs_change, wave_has_change}

-- ==== the value changes of a code among those of all

-- the value changes of a code
abbrev pub of_code : List ℕ → List ValueChange → List ValueChange
of_code code vs = filter (λ v. bytes_eq v.code code) vs

-- equal codes, in either order
pub same_bytes : (a b : List ℕ) → bytes_eq a b ≡ true → a ≡ b
same_bytes a b same = (bytes_eq-Decides a b).0 same

pub bytes_turned : (a b : List ℕ) → bytes_eq a b ≡ bytes_eq b a
bytes_turned a b = grind (arith, bytes_eq-Decides, cases_Bool)

pub itself : (a : List ℕ) → bytes_eq a a ≡ true
itself a = (bytes_eq-Decides a a).1 refl

pub differ : (a b : List ℕ) → (a ≡ b → ⊥) → bytes_eq a b ≡ false
differ a b apart = elim (cases_Bool (bytes_eq a b)) [
  | inl same ↦ absurd (apart (same_bytes a b same))
  | inr other ↦ other
]

-- those of two lists
pub of_both : (code : List ℕ) (xs ys : List ValueChange) → of_code code (xs ++ ys) ≡ of_code code xs ++ of_code code ys
of_both code xs ys = filter-append (λ v. bytes_eq v.code code) xs ys

-- one of the code, and one of another one
pub of_own : (v : ValueChange) → of_code v.code (v ∷ []) ≡ v ∷ []
of_own v = rw (itself v.code) refl

pub of_other : (code : List ℕ) (v : ValueChange) → bytes_eq v.code code ≡ false → of_code code (v ∷ []) ≡ []
of_other code v apart = rw apart refl

-- ==== in the amended file

-- ---- values by value changes

abbrev pub of : ℕ → List ℕ → List Bit → ValueChange
of tick code letters = record { tick = tick; code = code; letters = letters }

-- the value at a tick by the value changes of one code
abbrev pub value_by : ℕ → List ValueChange → ℕ → List Bit
value_by width xs t = value_from (all_x width) (map (λ v. change v.tick (extension width v.letters)) xs) t

-- whether one of them is at a tick
abbrev pub any_at : ℕ → List ValueChange → Bool
any_at t xs = list_any (λ v. v.tick == t) xs

-- the change of a value change
abbrev read_change : ℕ → ValueChange → Change
read_change width v = change v.tick (extension width v.letters)

-- one more
value_more : (width : ℕ) (xs : List ValueChange) (v : ValueChange) (t : ℕ)
    → value_by width (xs ++ v ∷ []) t ≡ (if nat_le v.tick t then extension width v.letters else value_by width xs t)
unfolding value_from
value_more width xs v t = ap (λ cs. value_from (all_x width) cs t) (map-append (read_change width) xs (v ∷ []))
    ∙ value_from-append (all_x width) (map (read_change width) xs) (read_change width v ∷ []) t

value_past : (width : ℕ) (xs : List ValueChange) (v : ValueChange) (t : ℕ) → v.tick ≤ t
    → value_by width (xs ++ v ∷ []) t ≡ extension width v.letters
value_past width xs v t past = value_more width xs v t ∙ ap (λ (b : Bool). if b then extension width v.letters else
    value_by width xs t) (le-leb v.tick t past)

pub value_early : (width : ℕ) (xs : List ValueChange) (v : ValueChange) (t : ℕ) → t < v.tick
    → value_by width (xs ++ v ∷ []) t ≡ value_by width xs t
value_early width xs v t early = value_more width xs v t ∙ ap (λ (b : Bool). if b then extension width v.letters else
    value_by width xs t) (lt-leb v.tick t early)

any_more : (xs : List ValueChange) (v : ValueChange) (t : ℕ) → v.tick ≡ t → any_at t (xs ++ v ∷ []) ≡ true
any_more xs v t is = list_any-append (λ v. v.tick == t) xs (v ∷ []) ∙ or_right _ _ (or_left _ _ (eq-eqb v.tick t is))

-- a value is read back from its short form
whole_value : (v : List Bit) → extension (length v) (short_form v) ≡ v
unfolding short_form
whole_value v = grind (arith, same_letters-Decides, found_passes)

-- the values of a wave have its width
wide_from : (width floor : ℕ) (kept before : List Bit) (cs : List Change) (t : ℕ) → AreChangesFrom floor kept cs
    → length kept ≡ width → length before ≡ width → length (value_from before cs t) ≡ width
unfolding value_from
wide_from width floor kept before [] t rise wide is = is
wide_from width floor kept before (c ∷ cs) t (from, differs, same, rest) wide is = elim (cases_Bool (nat_le c.tick t)) [
  | inl now ↦ rw now (wide_from width (c.tick + 1) c.value c.value cs t rest (same ∙ wide) (same ∙ wide))
  | inr later ↦ rw later (wide_from width (c.tick + 1) c.value before cs t rest (same ∙ wide) is)
]

pub wave_is_wide : (width : ℕ) (cs : List Change) (t : ℕ) → IsWave width cs → length (value_at width cs t) ≡ width
wave_is_wide width cs t wave = wide_from width 0 (all_x width) (all_x width) cs t wave.rise (length-replicate width _)
    (length-replicate width _)

-- the value of a wave just before a tick: all x before tick 0
abbrev pub value_before : ℕ → List Change → ℕ → List Bit
value_before width changes zero = all_x width
value_before width changes (suc t) = value_at width changes t

-- where a wave has no change, it has the value just before
stays_from : (before : List Bit) (cs : List Change) (t : ℕ) → wave_has_change cs (suc t) ≡ false
    → value_from before cs t ≡ value_from before cs (suc t)
unfolding value_from
stays_from before [] t none = refl
stays_from before (c ∷ cs) t none =
    let parts = or_parts (c.tick == suc t) (wave_has_change cs (suc t)) none in
    let same : nat_le c.tick (suc t) ≡ nat_le c.tick t = by_order parts.0 in
    rw same (stays_from (if nat_le c.tick t then c.value else before) cs t parts.1)
  where
    by_order : (c.tick == suc t) ≡ false → nat_le c.tick (suc t) ≡ nat_le c.tick t
    by_order other = elim (cases_lt t c.tick) [
      | inl less ↦ lt-leb c.tick (suc t) (omega (arith, less, eqb-false c.tick (suc t) other))
          ∙ sym (lt-leb c.tick t less)
      | inr past ↦ le-leb c.tick (suc t) (omega arith) ∙ sym (le-leb c.tick t past)
    ]

none_at_first : (before : List Bit) (cs : List Change) → wave_has_change cs 0 ≡ false
    → before ≡ value_from before cs 0
unfolding value_from
none_at_first before [] none = refl
none_at_first before (c ∷ cs) none =
    let parts = or_parts (c.tick == 0) (wave_has_change cs 0) none in
    rw (lt-leb c.tick 0 (omega (arith, eqb-false c.tick 0 parts.0))) (none_at_first before cs parts.1)

no_change_at : (width : ℕ) (cs : List Change) (t : ℕ) → wave_has_change cs t ≡ false
    → value_before width cs t ≡ value_at width cs t
no_change_at width cs zero none = none_at_first (all_x width) cs none
no_change_at width cs (suc t) none = stays_from (all_x width) cs t none

-- ---- the changes that are due

-- the value change of the new wave at a tick
abbrev pub new_change : AmendedCode → ℕ → ValueChange
new_change c t = record { tick = t; code = c.code; letters = short_form (new_value c t) }

-- the one that is due at a tick, if the file has had these
abbrev pub due_changes : AmendedCode → ℕ → List ValueChange → List ValueChange
due_changes c t xs = if needs_change c t && not (any_at t xs) then new_change c t ∷ [] else []

-- ---- the two files

-- the value from a tick on, if the file has had these value changes up to then
abbrev pub value_now : AmendedCode → List ValueChange → ℕ → List Bit
value_now c xs t = if any_at t xs then (if changes_stand c t then value_by c.width xs t else new_value c t)
    else value_before c.width c.new t

-- the value changes of the amended file, if the file has had these up to a tick
pub record HoldsNew (c : AmendedCode) (xs : List ValueChange) (t : ℕ) (ys : List ValueChange) : Type 0 where
  pub early : (u : ℕ) → u < t → value_by c.width ys u ≡ new_value c u
  pub now : (u : ℕ) → t ≤ u → value_by c.width ys u ≡ value_now c xs t

-- before any change
pub nothing_holds : (c : AmendedCode) → HoldsNew c [] 0 []
unfolding value_from
nothing_holds c = record { early = λ u before. absurd (omega arith); now = λ u past. refl }

module _ (c : AmendedCode) (wide : (t : ℕ) → length (new_value c t) ≡ c.width) where
  -- a new value
  new_now : (ys : List ValueChange) (t u : ℕ) → t ≤ u → value_by c.width (ys ++ new_change c t ∷ []) u ≡ new_value c t
  new_now ys t u past = value_past c.width ys (new_change c t) u past ∙ ap (λ n. extension n
      (short_form (new_value c t))) (sym (wide t)) ∙ whole_value (new_value c t)

  -- where none is needed, the new wave stays
  stays_at : (t : ℕ) → needs_change c t ≡ false → value_before c.width c.new t ≡ new_value c t
  stays_at t none = no_change_at c.width c.new t (or_parts _ _ none).0

  -- where changes stand, both waves have one value
  both_at : (t : ℕ) → changes_stand c t ≡ true → old_value c t ≡ new_value c t
  both_at t stands = (same_letters-Decides (old_value c t) (new_value c t)).0 (and_parts (same_letters (old_value c t)
      (new_value c t)) _ stands).0

  module _ (xs ys : List ValueChange) (t : ℕ) (holds : HoldsNew c xs t ys) where
    -- ---- what is due

    -- if the file had no change at the tick, the value is the new one after what is due
    due_value : any_at t xs ≡ false → (u : ℕ) → t ≤ u
        → value_by c.width (ys ++ due_changes c t xs) u ≡ new_value c t
    due_value none u past = elim (cases_Bool (needs_change c t)) [
      | inl needs ↦ ap (λ (b : Bool). value_by c.width (ys ++ (if b then new_change c t ∷ [] else [])) u) (and_from _ _
          needs (ap not none)) ∙ new_now ys t u past
      | inr stays ↦ ap (λ (b : Bool). value_by c.width (ys ++ (if b && not (any_at t xs) then new_change c t ∷ [] else
          [])) u) stays ∙ ap (λ l. value_by c.width l u) (append-nil ys) ∙ holds.now u past ∙ ap (λ (b : Bool). if b
          then (if changes_stand c t then value_by c.width xs t else new_value c t) else value_before c.width c.new t)
          none
          ∙ stays_at t stays
    ]

    -- if it had one, nothing is due
    none_due : any_at t xs ≡ true → due_changes c t xs ≡ []
    none_due some = elim (cases_Bool (needs_change c t)) [
      | inl needs ↦ rw (needs, some) refl
      | inr stays ↦ rw stays refl
    ]

    -- what is due changes no earlier value
    due_early : (u : ℕ) → u < t → value_by c.width (ys ++ due_changes c t xs) u ≡ new_value c u
    due_early u before = by_test (needs_change c t && not (any_at t xs))
      where
        by_test : (b : Bool) → value_by c.width (ys ++ (if b then new_change c t ∷ [] else [])) u ≡ new_value c u
        by_test true = value_early c.width ys (new_change c t) u before ∙ holds.early u before
        by_test false = ap (λ l. value_by c.width l u) (append-nil ys) ∙ holds.early u before

    -- ---- a change of the code in the file

    module _ (v : ValueChange) (is : v.tick ≡ t) where
      now_is : (b : Bool) → changes_stand c t ≡ b → value_now c (xs ++ v ∷ []) t
          ≡ (if b then value_by c.width (xs ++ v ∷ []) t else new_value c t)
      now_is b stands = ap (λ (d : Bool). if d then (if changes_stand c t then value_by c.width (xs ++ v ∷ []) t else
          new_value c t) else value_before c.width c.new t) (any_more xs v t is) ∙ ap (λ (d : Bool). if d then value_by
          c.width (xs ++ v ∷ []) t else new_value c t) stands

      -- it stands
      pub change_stands : changes_stand c t ≡ true → HoldsNew c (xs ++ v ∷ []) t (ys ++ v ∷ [])
      change_stands stands = record {
        early = λ u before. value_early c.width ys v u (omega arith) ∙ holds.early u before;
        now = λ u past. value_past c.width ys v u (omega arith) ∙ sym (value_past c.width xs v t (omega arith))
            ∙ sym (now_is true stands);
      }

      -- what is due is in its place
      pub change_goes : changes_stand c t ≡ false → HoldsNew c (xs ++ v ∷ []) t (ys ++ due_changes c t xs)
      change_goes goes = record {
        early = due_early;
        now = λ u past. by_any u past ∙ sym (now_is false goes);
      }
        where
          by_any : (u : ℕ) → t ≤ u → value_by c.width (ys ++ due_changes c t xs) u ≡ new_value c t
          by_any u past = elim (cases_Bool (any_at t xs)) [
            | inl some ↦ ap (λ l. value_by c.width (ys ++ l) u) (none_due some) ∙ ap (λ l. value_by c.width l u)
                (append-nil ys) ∙ holds.now u past ∙ ap (λ (b : Bool). if b then (if changes_stand c t then value_by
                c.width xs t else new_value c t) else value_before c.width c.new t) some ∙ ap (λ (b : Bool). if b then
                value_by c.width xs t else new_value c t) goes
            | inr none ↦ due_value none u past
          ]

    -- ---- the end of a tick

    -- all values up to the tick are those of the new wave
    value_at_end : (any_at t xs ≡ true → value_by c.width xs t ≡ old_value c t) → (u : ℕ) → t ≤ u
        → value_by c.width (ys ++ due_changes c t xs) u ≡ new_value c t
    value_at_end settled u past = elim (cases_Bool (any_at t xs)) [
      | inl some ↦ ap (λ l. value_by c.width (ys ++ l) u) (none_due some) ∙ ap (λ l. value_by c.width l u) (append-nil
          ys) ∙ holds.now u past ∙ ap (λ (b : Bool). if b then (if changes_stand c t then value_by c.width xs t else
          new_value c t) else value_before c.width c.new t) some ∙ by_stands some
      | inr none ↦ due_value none u past
    ]
      where
        by_stands : any_at t xs ≡ true → (if changes_stand c t then value_by c.width xs t else new_value c t)
            ≡ new_value c t
        by_stands some = elim (cases_Bool (changes_stand c t)) [
          | inl stands ↦ rw stands (settled some ∙ both_at t stands)
          | inr goes ↦ rw goes refl
        ]

    pub tick_ends : (any_at t xs ≡ true → value_by c.width xs t ≡ old_value c t) → any_at (suc t) xs ≡ false
        → HoldsNew c xs (suc t) (ys ++ due_changes c t xs)
    tick_ends settled none = record {
      early = λ u before. elim (cases_lt u t) [
        | inl less ↦ due_early u less
        | inr past ↦ subst (λ n. value_by c.width (ys ++ due_changes c t xs) n ≡ new_value c n) (omega arith)
            (value_at_end settled t (omega arith))
      ];
      now = λ u past. value_at_end settled u (omega arith) ∙ sym (ap (λ (b : Bool). if b then
          (if changes_stand c (suc t) then
          value_by c.width xs (suc t) else new_value c (suc t)) else new_value c t) none);
    }
