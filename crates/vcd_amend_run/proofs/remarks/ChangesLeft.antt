-- Variables of a code have one code in the amended file just if their changes are the same.
use Rattle.std.proofs.Common.{◌≡◌, ◌∙◌, ◌+◌, ◌≤◌, ◌++◌, ℕ, Bool, true, false, List, [], ◌∷◌, map, length, suc}
use Rattle.std.proofs.Common.{Option, Some, None, refl, sym, ap, ap₂, subst, inl, inr, append_assoc, arith, All, not}
use Rattle.std.proofs.Common.{cond, get_or, if◌then◌else◌, ◌⊎◌}
use Rattle.std.specs.Prelude.{bytes_eq}
use Rattle.std.specs.List.{filter, list_any}
use Rattle.std.proofs.lemmas.Bool.{cases_Bool, false≢true}
use Rattle.std.proofs.lemmas.List.{append-nil, length-append}
use Rattle.std.proofs.lemmas.List.Elements.{All-nil, All-cons, All-head, All-map, All-tail, All-weaker, filter-append}
use Rattle.std.proofs.lemmas.Option.{same_Some}
use Rattle.vcd_core.specs.declared.wave.Change.{Change}
use Rattle.vcd_core.specs.Contents.{SignalContents}
use Rattle.vcd_core.specs.Sound.{IsSoundSignal}
use Rattle.vcd_core.specs.Wave.{changes_of, value_at}
use Rattle.vcd_text.specs.Grammar.{VariableDeclaration, ParseState, is_skipped, kept_variables}
use Rattle.vcd_text.specs.Meaning.{changes_of_code}
use Rattle.vcd_amend.specs.Amendment.{Amendment, AmendedCode, Fate, stays, is_removed, amended_code, fate_of}
use Rattle.vcd_amend.specs.Amendment.{first_with_code, flat_map_along, variable_left}
use Rattle.vcd_amend.specs.AmendedMeaning.{amended_wave, class_of}
use Rattle.vcd_amend.specs.CodedAmendment.{AreAlike, AreCodedSignalsOf, CodedSignal, HasWave, fate_for, fates_for}
use Rattle.vcd_amend.specs.GivenCodes.{AreSignalsOf, CodedWave, IsFileState, amendment_for, code_for_wave}
use Rattle.vcd_amend.specs.GivenCodes.{coded_signal, coded_signals, coded_waves, same_changes, signals_left}
use Rattle.vcd_amend_run.specs.OutputRemarks.{left_apart, left_of_code}
use Rattle.vcd_amend_run.specs.inside.OutputRemarks.{VariableFate, codes_in_place, is_fated_apart, variable_fates}
use Rattle.vcd_amend_run.specs.inside.OutputRemarks.{variables_by_fate}
use Rattle.vcd_amend.proofs.amended.OneCode.{same_bytes}
use Rattle.vcd_amend.proofs.given_codes.Fits.{given_codes_fit}
use Rattle.vcd_amend.proofs.given_codes.Gives.{at_end, declared_one, later, one_kept, with_coded_signal}
use Rattle.vcd_amend_run.proofs.remarks.CodesApart.{HasCode, all_of_one, codes_of_each, each_of_codes, has_code_among}
use Rattle.vcd_amend_run.proofs.remarks.CodesApart.{left_is_apart, none_named_one}
use Rattle.vcd_amend_run.proofs.remarks.CodesApart.{one_none_named, one_of_all}
use Rattle.vcd_amend_run.proofs.remarks.Fates.{left_apart_are}
use Rattle.vcd_amend.proofs.shared.Lists.{all_of_map}

-- ==== the fates of variables

-- the fates of variables, if these signals are left of the kept ones
abbrev fate_to : (skipped : Bool) → VariableDeclaration → List (Option CodedSignal) → Fate
fate_to true d os = stays
fate_to false d [] = stays
fate_to false d (o ∷ os) = fate_for d o

abbrev fates_to : List VariableDeclaration → List (Option CodedSignal) → List VariableFate
fates_to [] os = []
fates_to (d ∷ ds) os =
    record { fate = fate_to (is_skipped d) d os; variable = d } ∷ fates_to ds (later (is_skipped d) os)

abbrev with_fate : Fate → VariableDeclaration → VariableFate
with_fate f d = record { fate = f; variable = d }

fates_are : (a : Amendment) (before ds : List VariableDeclaration) (os : List (Option CodedSignal)) (fs : List Fate)
    → a.fates ≡ fs ++ fates_for (kept_variables ds) os → length fs ≡ length (kept_variables before)
    → length (kept_variables ds) ≡ length os
    → flat_map_along (λ xs d. with_fate (fate_of a xs d) d ∷ []) before ds ≡ fates_to ds os
fates_are a before [] os fs is long many = refl
fates_are a before (d ∷ ds) os fs is long many =
    by_kind (is_skipped d) refl os is many (λ os fs is long many. fates_are a (before ++ d ∷ []) ds os fs is long many)
  where
    by_kind : (skipped : Bool) → is_skipped d ≡ skipped → (os : List (Option CodedSignal))
        → a.fates ≡ fs ++ fates_for (kept_variables (d ∷ ds)) os → length (kept_variables (d ∷ ds)) ≡ length os
        → ((os : List (Option CodedSignal)) (fs : List Fate) → a.fates ≡ fs ++ fates_for (kept_variables ds) os
        → length fs ≡ length (kept_variables (before ++ d ∷ [])) → length (kept_variables ds) ≡ length os
        → flat_map_along (λ xs d. with_fate (fate_of a xs d) d ∷ []) (before ++ d ∷ []) ds ≡ fates_to ds os)
        → with_fate (fate_of a before d) d
        ∷ flat_map_along (λ xs d. with_fate (fate_of a xs d) d ∷ []) (before ++ d ∷ []) ds
        ≡ with_fate (fate_to skipped d os) d ∷ fates_to ds (later skipped os)
    by_kind true skips os is many again =
        let fate : fate_of a before d ≡ stays = rw skips refl in
        let none : kept_variables (d ∷ ds) ≡ kept_variables ds = rw skips refl in
        ap₂ (λ f l. with_fate f d ∷ l) fate (again os fs (is ∙ ap (λ l. fs ++ fates_for l os) none)
        (omega (arith, long, one_kept before d true skips)) (ap length (sym none) ∙ many))
    by_kind false kept [] is many again =
        let one : kept_variables (d ∷ ds) ≡ d ∷ kept_variables ds = rw kept refl in
        let never : length (d ∷ kept_variables ds) ≡ 0 = ap length (sym one) ∙ many in
        absurd (omega (arith, never))
    by_kind false kept (o ∷ os) is many again =
        let one : kept_variables (d ∷ ds) ≡ d ∷ kept_variables ds = rw kept refl in
        let all : a.fates ≡ fs ++ fate_for d o ∷ fates_for (kept_variables ds) os =
        is ∙ ap (λ l. fs ++ fates_for l (o ∷ os)) one in
        let fate : fate_of a before d ≡ fate_for d o =
        ap (λ (b : Bool). if b then stays else get_or a.fates (length (kept_variables before)) stays) kept
        ∙ ap (λ l. get_or l (length (kept_variables before)) stays) all
        ∙ ap (λ n. get_or (fs ++ fate_for d o ∷ fates_for (kept_variables ds) os) n stays) (sym long)
        ∙ at_end fs (fate_for d o) _ in
        let more : length (d ∷ kept_variables ds) ≡ length (o ∷ os) = ap length (sym one) ∙ many in
        let rest = again os (fs ++ fate_for d o ∷ [])
        (all ∙ sym (append_assoc fs (fate_for d o ∷ []) (fates_for (kept_variables ds) os)))
        (length-append fs _ ∙ omega (arith, long, one_kept before d false kept)) (omega (arith, more)) in
        ap₂ (λ f l. with_fate f d ∷ l) fate rest

-- ==== variables of one class

like_skip : (d e : VariableDeclaration) → class_of d ≡ class_of e → is_skipped d ≡ is_skipped e
like_skip d e same = by_kind (is_skipped d) (is_skipped e) same
  where
    by_kind : (x y : Bool) → (if x then None else Some d.size) ≡ (if y then None else Some e.size) → x ≡ y
    by_kind true true same = refl
    by_kind false false same = refl
    by_kind true false same = absurd (cc)
    by_kind false true same = absurd (cc)

like_size : (d e : VariableDeclaration) → class_of d ≡ class_of e → is_skipped d ≡ false → d.size ≡ e.size
like_size d e same kept =
    let other : is_skipped e ≡ false = sym (like_skip d e same) ∙ kept in
    let left : class_of d ≡ Some d.size = rw kept refl in
    let right : class_of e ≡ Some e.size = rw other refl in
    same_Some d.size e.size (sym left ∙ same ∙ right)

-- the changes of the signals that are left of kept variables of this code
abbrev changes_left : (code : List ℕ) → (kept : List VariableDeclaration)
    → (remaining : List (Option SignalContents)) → List (List Change)
changes_left code ds ns = map (λ p. p.1.changes) (left_of_code code ds ns)

-- a variable of this code is of one class with this one
abbrev IsLike_of : (k : List ℕ) → (e d : VariableDeclaration) → Type 0
IsLike_of k e d = bytes_eq k d.code ≡ true → class_of d ≡ class_of e

-- ==== codes and changes

module _ (s : ParseState) (gs : List CodedWave) (k : List ℕ) (e : VariableDeclaration) where
  abbrev cs : List AmendedCode
  cs = map (λ g. g.coded) gs

  abbrev coded : List VariableDeclaration → List (Option SignalContents) → List (Option CodedSignal)
  coded ds ns = coded_signals s gs (kept_variables ds) ns

  -- a variable of the code is of one class with e
  abbrev IsLike : VariableDeclaration → Type 0
  IsLike d = IsLike_of k e d

  -- the changes in the file of a code, at this width
  abbrev in_file : ℕ → List ℕ → List Change
  in_file w code = changes_of w s.tick (value_at w (changes_of_code w code s.value_changes))

  -- ---- one code has one list of changes

  abbrev changes_by : List ℕ → List Change
  changes_by q = amended_wave (amended_code q cs) (in_file e.size k)

  wave_by : (d : VariableDeclaration) (t : CodedSignal) (o : Option AmendedCode) → HasWave s d t o
      → t.signal.changes ≡ amended_wave o (in_file d.size d.code)
  wave_by d t None (same, wave) = wave
  wave_by d t (Some c) (width, wave) = wave

  module _ (q : List ℕ) where
    abbrev IsBy : List Change → Type 0
    IsBy x = x ≡ changes_by q

    abbrev HasIt : VariableFate → Type 0
    HasIt v = HasCode k (λ p. p ≡ q) v

    kept_by_code : (d : VariableDeclaration) (ds : List VariableDeclaration) (ns : List (Option SignalContents))
        → is_skipped d ≡ false → IsLike d → AreCodedSignalsOf s cs (d ∷ kept_variables ds)
        (coded_signals s gs (d ∷ kept_variables ds) ns)
        → All HasIt (with_fate (fate_to false d (coded_signals s gs (d ∷ kept_variables ds) ns)) d
        ∷ fates_to ds (later false (coded_signals s gs (d ∷ kept_variables ds) ns)))
        → ((ns : List (Option SignalContents)) → AreCodedSignalsOf s cs (kept_variables ds) (coded ds ns)
        → All HasIt (fates_to ds (coded ds ns)) → All IsBy (changes_left k (kept_variables ds) ns))
        → All IsBy (changes_left k (d ∷ kept_variables ds) ns)
    kept_by_code d ds [] kept like waves each again = absurd waves
    kept_by_code d ds (None ∷ ns) kept like waves each again =
        again ns waves (All-tail HasIt (with_fate is_removed d) (fates_to ds (coded ds ns)) each)
    kept_by_code d ds (Some n ∷ ns) kept like (here, waves) each again =
        let t : CodedSignal = coded_signal s gs d n in
        let rest : All IsBy (changes_left k (kept_variables ds) ns) =
        again ns waves (All-tail HasIt (with_fate (fate_for d (Some t)) d) (fates_to ds (coded ds ns)) each) in
        elim (cases_Bool (bytes_eq k d.code)) [
          | inl is ↦
              let all : All (λ x. x.code ≡ q) (variable_left (fate_for d (Some t)) d) =
              All-head HasIt (with_fate (fate_for d (Some t)) d) (fates_to ds (coded ds ns)) each is in
              let code : t.code ≡ q = All-head (λ x. x.code ≡ q) (with_coded_signal d t) []
              (subst (All (λ x. x.code ≡ q)) (declared_one d t) all) in
              let size : d.size ≡ e.size = like_size d e (like is) kept in
              let own : d.code ≡ k = sym (same_bytes k d.code is) in
              let changes : n.changes ≡ changes_by q = wave_by d t (amended_code t.code cs) here.wave
              ∙ (λ i. amended_wave (amended_code (code i) cs) (in_file (size i) (own i))) in
              rw is (All-cons IsBy n.changes (changes_left k (kept_variables ds) ns) changes rest)
          | inr other ↦ rw other rest
        ]

    changes_by_code : (ds : List VariableDeclaration) (ns : List (Option SignalContents)) → All IsLike ds
        → AreCodedSignalsOf s cs (kept_variables ds) (coded ds ns) → All HasIt (fates_to ds (coded ds ns))
        → All IsBy (changes_left k (kept_variables ds) ns)
    changes_by_code [] ns like waves each = All-nil IsBy
    changes_by_code (d ∷ ds) ns like waves each = by_kind (is_skipped d) refl waves each
        (λ ns waves each. changes_by_code ds ns (All-tail IsLike d ds like) waves each)
      where
        kept_by : Bool → List VariableDeclaration
        kept_by skipped = cond (not skipped) (d ∷ kept_variables ds) (kept_variables ds)

        by_kind : (skipped : Bool) → is_skipped d ≡ skipped
            → AreCodedSignalsOf s cs (kept_by skipped) (coded_signals s gs (kept_by skipped) ns)
            → All HasIt (with_fate (fate_to skipped d (coded_signals s gs (kept_by skipped) ns)) d
            ∷ fates_to ds (later skipped (coded_signals s gs (kept_by skipped) ns)))
            → ((ns : List (Option SignalContents)) → AreCodedSignalsOf s cs (kept_variables ds) (coded ds ns)
            → All HasIt (fates_to ds (coded ds ns)) → All IsBy (changes_left k (kept_variables ds) ns))
            → All IsBy (changes_left k (kept_by skipped) ns)
        by_kind true skips waves each again =
            again ns waves (All-tail HasIt (with_fate stays d) (fates_to ds (coded ds ns)) each)
        by_kind false kept waves each again =
            kept_by_code d ds ns kept (All-head IsLike d ds like) waves each again

  -- ---- one list of changes has one code

  -- the code of a signal with these changes that is left of a variable with this code and this size
  abbrev code_by : List ℕ → ℕ → List Change → List ℕ
  code_by own w changes = if same_changes (in_file w own) changes then own else code_for_wave gs own
      (record { own = Some own; width = w; old = in_file w own; new = changes })

  module _ (x : List Change) where
    abbrev the_code : List ℕ
    the_code = if is_skipped e then k else code_by k e.size x

    abbrev HasThe : VariableFate → Type 0
    HasThe v = HasCode k (λ p. p ≡ the_code) v

    skipped_has : (d : VariableDeclaration) → is_skipped d ≡ true → IsLike d → HasThe (with_fate stays d)
    skipped_has d skips like is =
        let too : is_skipped e ≡ true = sym (like_skip d e (like is)) ∙ skips in
        All-cons (λ y. y.code ≡ the_code) d [] (sym (same_bytes k d.code is)
        ∙ sym (ap (λ (b : Bool). if b then k else code_by k e.size x) too)) (All-nil (λ y. y.code ≡ the_code))

    kept_has : (d : VariableDeclaration) (n : SignalContents) → is_skipped d ≡ false → IsLike d
        → (bytes_eq k d.code ≡ true → n.changes ≡ x)
        → HasThe (with_fate (fate_for d (Some (coded_signal s gs d n))) d)
    kept_has d n kept like changes is =
        let t : CodedSignal = coded_signal s gs d n in
        let size : d.size ≡ e.size = like_size d e (like is) kept in
        let own : d.code ≡ k = sym (same_bytes k d.code is) in
        let too : is_skipped e ≡ false = sym (like_skip d e (like is)) ∙ kept in
        let same : t.code ≡ code_by k e.size x = λ i. code_by (own i) (size i) (changes is i) in
        let code : t.code ≡ the_code =
        same ∙ sym (ap (λ (b : Bool). if b then k else code_by k e.size x) too) in
        subst (All (λ y. y.code ≡ the_code)) (sym (declared_one d t))
        (All-cons (λ y. y.code ≡ the_code) (with_coded_signal d t) [] code (All-nil (λ y. y.code ≡ the_code)))

    abbrev IsIt : List Change → Type 0
    IsIt y = y ≡ x

    kept_by_changes : (d : VariableDeclaration) (ds : List VariableDeclaration) (ns : List (Option SignalContents))
        → is_skipped d ≡ false → IsLike d → AreSignalsOf s (d ∷ kept_variables ds) ns
        → All IsIt (changes_left k (d ∷ kept_variables ds) ns)
        → ((ns : List (Option SignalContents)) → AreSignalsOf s (kept_variables ds) ns
        → All IsIt (changes_left k (kept_variables ds) ns) → All HasThe (fates_to ds (coded ds ns)))
        → All HasThe (with_fate (fate_to false d (coded_signals s gs (d ∷ kept_variables ds) ns)) d
        ∷ fates_to ds (later false (coded_signals s gs (d ∷ kept_variables ds) ns)))
    kept_by_changes d ds [] kept like new all again = absurd new
    kept_by_changes d ds (None ∷ ns) kept like new all again =
        All-cons HasThe (with_fate is_removed d) (fates_to ds (coded ds ns))
        (λ is. All-nil (λ y. y.code ≡ the_code)) (again ns new all)
    kept_by_changes d ds (Some n ∷ ns) kept like (here, new) all again =
        let others : List (List Change) = changes_left k (kept_variables ds) ns in
        let changes : bytes_eq k d.code ≡ true → n.changes ≡ x =
        λ is. All-head IsIt n.changes others (rw is at all) in
        let rest : All IsIt others = elim (cases_Bool (bytes_eq k d.code)) [
          | inl is ↦ All-tail IsIt n.changes others (rw is at all)
          | inr other ↦ rw other at all
        ] in
        All-cons HasThe (with_fate (fate_for d (Some (coded_signal s gs d n))) d) (fates_to ds (coded ds ns))
        (kept_has d n kept like changes) (again ns new rest)

    codes_by_changes : (ds : List VariableDeclaration) (ns : List (Option SignalContents)) → All IsLike ds
        → AreSignalsOf s (kept_variables ds) ns → All IsIt (changes_left k (kept_variables ds) ns)
        → All HasThe (fates_to ds (coded ds ns))
    codes_by_changes [] ns like new all = All-nil HasThe
    codes_by_changes (d ∷ ds) ns like new all = by_kind (is_skipped d) refl new all
        (λ ns new all. codes_by_changes ds ns (All-tail IsLike d ds like) new all)
      where
        kept_by : Bool → List VariableDeclaration
        kept_by skipped = cond (not skipped) (d ∷ kept_variables ds) (kept_variables ds)

        by_kind : (skipped : Bool) → is_skipped d ≡ skipped → AreSignalsOf s (kept_by skipped) ns
            → All IsIt (changes_left k (kept_by skipped) ns)
            → ((ns : List (Option SignalContents)) → AreSignalsOf s (kept_variables ds) ns
            → All IsIt (changes_left k (kept_variables ds) ns) → All HasThe (fates_to ds (coded ds ns)))
            → All HasThe (with_fate (fate_to skipped d (coded_signals s gs (kept_by skipped) ns)) d
            ∷ fates_to ds (later skipped (coded_signals s gs (kept_by skipped) ns)))
        by_kind true skips new all again =
            All-cons HasThe (with_fate stays d) (fates_to ds (coded ds ns))
            (skipped_has d skips (All-head IsLike d ds like)) (again ns new all)
        by_kind false kept new all again =
            kept_by_changes d ds ns kept (All-head IsLike d ds like) new all again

-- ==== the variables that are named

none_pass : {A : Type 0} (p : A → Bool) (xs : List A) → list_any p xs ≡ false → filter p xs ≡ []
none_pass p [] none = refl
none_pass p (x ∷ xs) none = elim (cases_Bool (p x)) [
  | inl here ↦ let never : true ≡ false = rw here at none in absurd (cc)
  | inr other ↦ rw other (none_pass p xs (rw other at none))
]

module _ (s : ParseState) (k : List ℕ) (e : VariableDeclaration) where
  abbrev IsOfClass : VariableDeclaration → Type 0
  IsOfClass d = IsLike_of k e d

  -- if the variables of the code are skipped, no signal is left of them
  none_of_skipped : is_skipped e ≡ true → (ds : List VariableDeclaration) (ns : List (Option SignalContents))
      → All IsOfClass ds → AreSignalsOf s (kept_variables ds) ns → left_of_code k (kept_variables ds) ns ≡ []
  none_of_skipped skips [] ns like new = refl
  none_of_skipped skips (d ∷ ds) ns like new = by_kind (is_skipped d) refl new
      (λ ns new. none_of_skipped skips ds ns (All-tail IsOfClass d ds like) new)
    where
      kept_by : Bool → List VariableDeclaration
      kept_by skipped = cond (not skipped) (d ∷ kept_variables ds) (kept_variables ds)

      other : is_skipped d ≡ false → bytes_eq k d.code ≡ false
      other kept = elim (cases_Bool (bytes_eq k d.code)) [
        | inl is ↦
            absurd (false≢true (sym kept ∙ like_skip d e (All-head IsOfClass d ds like is) ∙ skips))
        | inr apart ↦ apart
      ]

      one : (ns : List (Option SignalContents)) → is_skipped d ≡ false → AreSignalsOf s (d ∷ kept_variables ds) ns
          → ((ns : List (Option SignalContents)) → AreSignalsOf s (kept_variables ds) ns
          → left_of_code k (kept_variables ds) ns ≡ []) → left_of_code k (d ∷ kept_variables ds) ns ≡ []
      one [] kept new again = refl
      one (None ∷ ns) kept new again = again ns new
      one (Some n ∷ ns) kept (here, new) again = rw (other kept) (again ns new)

      by_kind : (skipped : Bool) → is_skipped d ≡ skipped → AreSignalsOf s (kept_by skipped) ns
          → ((ns : List (Option SignalContents)) → AreSignalsOf s (kept_variables ds) ns
          → left_of_code k (kept_variables ds) ns ≡ []) → left_of_code k (kept_by skipped) ns ≡ []
      by_kind true is new again = again ns new
      by_kind false is new again = one ns is new again

module _ (s : ParseState) (gs : List CodedWave) (k : List ℕ) (e : VariableDeclaration) (all : List VariableFate)
    (some : has_code_among k (variables_by_fate (is_fated_apart all) all) ≡ true) (kept_one : is_skipped e ≡ false)
  where
    abbrev told : List (Option SignalContents) → List VariableDeclaration → List VariableFate
    told ns ds = fates_to ds (coded_signals s gs (kept_variables ds) ns)

    abbrev names_of : List VariableFate → List VariableDeclaration
    names_of vs = filter (λ d. bytes_eq k d.code) (variables_by_fate (is_fated_apart all) vs)

    abbrev left_by : List VariableDeclaration → List (Option SignalContents) → List VariableDeclaration
    left_by ks ns = map (λ p. p.0) (left_of_code k ks ns)

    names_more : (v : VariableFate) (vs : List VariableFate) → names_of (v ∷ vs)
        ≡ names_of (v ∷ []) ++ names_of vs
    names_more v vs =
        let one : List VariableDeclaration =
        if is_fated_apart all v.fate v.variable then v.variable ∷ [] else [] in
        filter-append (λ d. bytes_eq k d.code) one (variables_by_fate (is_fated_apart all) vs)
        ∙ ap (λ l. filter (λ d. bytes_eq k d.code) l ++ names_of vs) (sym (append-nil one))

    -- a variable of another code
    other_not_named : (v : VariableFate) → bytes_eq k v.variable.code ≡ false → names_of (v ∷ []) ≡ []
    other_not_named v other = by_test (is_fated_apart all v.fate v.variable)
      where
        by_test : (b : Bool) → filter (λ d. bytes_eq k d.code) ((if b then v.variable ∷ [] else []) ++ []) ≡ []
        by_test true = rw other refl
        by_test false = refl

    named_by : (v : VariableFate) (b : Bool) → is_fated_apart all v.fate v.variable ≡ b
        → bytes_eq k v.variable.code ≡ true
        → names_of (v ∷ []) ≡ (if b then v.variable ∷ [] else [])
    named_by v true apart is = rw apart (rw is refl)
    named_by v false apart is = rw apart refl

    module _ (d : VariableDeclaration) where
      skipped_not_named : is_skipped d ≡ true → IsLike_of k e d → names_of (with_fate stays d ∷ []) ≡ []
      skipped_not_named skips like = elim (cases_Bool (bytes_eq k d.code)) [
        | inl is ↦ absurd (false≢true (sym kept_one ∙ sym (like_skip d e (like is)) ∙ skips))
        | inr other ↦ other_not_named (with_fate stays d) other
      ]

      left_one : (n : SignalContents) (ks : List VariableDeclaration) (ns : List (Option SignalContents))
          → names_of (with_fate (fate_for d (Some (coded_signal s gs d n))) d ∷ []) ++ left_by ks ns
          ≡ left_by (d ∷ ks) (Some n ∷ ns)
      left_one n ks ns = elim (cases_Bool (bytes_eq k d.code)) [
        | inl is ↦
            let v : VariableFate = with_fate (fate_for d (Some (coded_signal s gs d n))) d in
            let apart : is_fated_apart all v.fate d ≡ true =
            left_is_apart k all some v (with_coded_signal d (coded_signal s gs d n)) is
            (declared_one d (coded_signal s gs d n)) in
            ap (λ l. l ++ left_by ks ns) (named_by v true apart is)
            ∙ ap (λ (b : Bool). map (λ p. p.0) (if b then (d, n) ∷ left_of_code k ks ns else left_of_code k ks ns))
            (sym is)
        | inr other ↦
            ap (λ l. l ++ left_by ks ns)
            (other_not_named (with_fate (fate_for d (Some (coded_signal s gs d n))) d) other)
            ∙ ap (λ (b : Bool). map (λ p. p.0) (if b then (d, n) ∷ left_of_code k ks ns else left_of_code k ks ns))
            (sym other)
      ]

    all_named : (ds : List VariableDeclaration) (ns : List (Option SignalContents)) → All (IsLike_of k e) ds
        → AreSignalsOf s (kept_variables ds) ns → names_of (told ns ds) ≡ left_by (kept_variables ds) ns
    all_named [] ns like new = refl
    all_named (d ∷ ds) ns like new = by_kind (is_skipped d) refl new
        (λ ns new. all_named ds ns (All-tail (IsLike_of k e) d ds like) new)
      where
        kept_by : Bool → List VariableDeclaration
        kept_by skipped = cond (not skipped) (d ∷ kept_variables ds) (kept_variables ds)

        one : (ns : List (Option SignalContents)) → AreSignalsOf s (d ∷ kept_variables ds) ns
            → ((ns : List (Option SignalContents)) → AreSignalsOf s (kept_variables ds) ns
            → names_of (told ns ds) ≡ left_by (kept_variables ds) ns)
            → names_of (with_fate (fate_to false d (coded_signals s gs (d ∷ kept_variables ds) ns)) d
            ∷ fates_to ds (later false (coded_signals s gs (d ∷ kept_variables ds) ns)))
            ≡ left_by (d ∷ kept_variables ds) ns
        one [] new again = absurd new
        one (None ∷ ns) new again = again ns new
        one (Some n ∷ ns) (here, new) again =
            names_more (with_fate (fate_for d (Some (coded_signal s gs d n))) d) (told ns ds)
            ∙ ap (λ l. names_of (with_fate (fate_for d (Some (coded_signal s gs d n))) d ∷ []) ++ l) (again ns new)
            ∙ left_one d n (kept_variables ds) ns

        by_kind : (skipped : Bool) → is_skipped d ≡ skipped → AreSignalsOf s (kept_by skipped) ns
            → ((ns : List (Option SignalContents)) → AreSignalsOf s (kept_variables ds) ns
            → names_of (told ns ds) ≡ left_by (kept_variables ds) ns)
            → names_of (with_fate (fate_to skipped d (coded_signals s gs (kept_by skipped) ns)) d
            ∷ fates_to ds (later skipped (coded_signals s gs (kept_by skipped) ns)))
            ≡ left_by (kept_by skipped) ns
        by_kind true is new again =
            names_more (with_fate stays d) (told ns ds)
            ∙ ap (λ l. l ++ names_of (told ns ds)) (skipped_not_named d is (All-head (IsLike_of k e) d ds like))
            ∙ again ns new
        by_kind false is new again = one ns new again

-- ==== the whole

none_like : (k : List ℕ) (e : VariableDeclaration) (ds : List VariableDeclaration) → first_with_code k ds ≡ None
    → All (IsLike_of k e) ds
none_like k e [] none = All-nil (IsLike_of k e)
none_like k e (d ∷ ds) none = elim (cases_Bool (bytes_eq k d.code)) [
  | inl is ↦ let never : Some d ≡ None = rw is at none in absurd (cc)
  | inr other ↦
      All-cons (IsLike_of k e) d ds (λ is. absurd (false≢true (sym other ∙ is)))
      (none_like k e ds (rw other at none))
]

-- a variable with which all of the code are of one class
like_one : (k : List ℕ) (ds : List VariableDeclaration) → AreAlike ds
    → (o : Option VariableDeclaration) → first_with_code k ds ≡ o
    → (e : VariableDeclaration) × All (IsLike_of k e) ds
like_one k ds alike None none =
    let e : VariableDeclaration = record { scopes = []; kind = []; size = 0; code = []; words = [] } in
    (e, none_like k e ds none)
like_one k ds alike (Some e) found = (
  e,
  All-weaker (λ d. d.code ≡ k → class_of d ≡ class_of e) (IsLike_of k e)
      (λ d like is. like (sym (same_bytes k d.code is))) ds (alike k e found),
)

module _ (s : ParseState) (remaining : List (Option SignalContents)) (derived : List SignalContents) where
  abbrev waves : List CodedWave
  waves = coded_waves s remaining derived

  as_many : (ks : List VariableDeclaration) (ns : List (Option SignalContents)) → AreSignalsOf s ks ns
      → length ks ≡ length (coded_signals s waves ks ns)
  as_many [] [] new = refl
  as_many [] (n ∷ ns) new = absurd new
  as_many (d ∷ ks) [] new = absurd new
  as_many (d ∷ ks) (None ∷ ns) new = ap suc (as_many ks ns new)
  as_many (d ∷ ks) (Some n ∷ ns) (here, new) = ap suc (as_many ks ns new)

  module _ (file : IsFileState s) (new : AreSignalsOf s (kept_variables s.declared) remaining)
      (sound : All (IsSoundSignal s.tick) derived) (few : length (signals_left remaining) + length derived ≤ s.limit)
      (k : List ℕ) where
    abbrev a : Amendment
    a = amendment_for s remaining derived

    abbrev ds : List VariableDeclaration
    ds = s.declared

    abbrev os : List (Option CodedSignal)
    os = coded_signals s waves (kept_variables ds) remaining

    abbrev vs : List VariableFate
    vs = fates_to ds os

    abbrev changes : List (List Change)
    changes = changes_left k (kept_variables ds) remaining

    abbrev AllOne : Type 0
    AllOne = All (λ x. All (λ y. x ≡ y) changes) changes

    like : (e : VariableDeclaration) × All (IsLike_of k e) ds
    like = like_one k ds file.alike (first_with_code k ds) refl

    if_none_is_named : has_code_among k (variables_by_fate (is_fated_apart vs) vs) ≡ false → AllOne
    if_none_is_named none =
        let fits = given_codes_fit s remaining derived file new sound few in
        let codes : List (List ℕ) = codes_in_place vs k in
        let one = all_of_one codes [] (codes_of_each k (λ p. All (λ q. p ≡ q) codes) vs (none_named_one k vs vs none))
        in
        one_of_all changes (changes_by s waves k like.0 one.0)
        (changes_by_code s waves k like.0 one.0 ds remaining like.1 fits.variables
        (each_of_codes k (λ p. p ≡ one.0) vs one.1))

    if_all_are_one : AllOne → has_code_among k (variables_by_fate (is_fated_apart vs) vs) ≡ false
    if_all_are_one all =
        let one = all_of_one changes [] all in
        let p : List ℕ = the_code s waves k like.0 one.0 in
        let each : All (HasCode k (λ q. q ≡ p)) vs = codes_by_changes s waves k like.0 one.0 ds remaining like.1 new
        one.1 in
        one_none_named k vs p (codes_of_each k (λ q. q ≡ p) vs each) vs each

    named_are : variables_by_fate (is_fated_apart vs) vs ≡ left_apart a ds
    named_are =
        let many : length (kept_variables ds) ≡ length os = as_many (kept_variables ds) remaining new in
        let fates : variable_fates a ds ≡ vs = fates_are a [] ds os [] refl refl many in
        ap (λ (ws : List VariableFate). variables_by_fate (is_fated_apart ws) ws) (sym fates) ∙ left_apart_are a ds

    abbrev named : List VariableDeclaration
    named = filter (λ d. bytes_eq k d.code) (left_apart a ds)

    abbrev left : List (VariableDeclaration × SignalContents)
    left = left_of_code k (kept_variables ds) remaining

    abbrev AreSame : Type 0
    AreSame = All (λ p. All (λ q. p.1.changes ≡ q.1.changes) left) left

    pub named_just_if_changes_differ : ((named ≡ []) × AreSame) ⊎ ((named ≡ map (λ p. p.0) left) × (AreSame → ⊥))
    named_just_if_changes_differ = elim (cases_Bool (has_code_among k (variables_by_fate (is_fated_apart vs) vs))) [
      | inl some ↦ inr (
        ap (filter (λ d. bytes_eq k d.code)) (sym named_are)
            ∙ all_named s waves k like.0 vs some (kept_if_some some) ds remaining like.1 new,
        λ same. absurd (false≢true (sym (if_all_are_one (one_of_same same)) ∙ some)),
      )
      | inr none ↦ inl (
        ap (filter (λ d. bytes_eq k d.code)) (sym named_are)
            ∙ none_pass (λ d. bytes_eq k d.code) (variables_by_fate (is_fated_apart vs) vs) none,
        same_of_one (if_none_is_named none),
      )
    ]
      where
        change_of : VariableDeclaration × SignalContents → List Change
        change_of p = p.1.changes

        one_of_same : AreSame → AllOne
        one_of_same same = All-map (λ x. All (λ y. x ≡ y) changes) change_of left
            (All-weaker (λ p. All (λ q. change_of p ≡ change_of q) left) (λ p. All (λ y. change_of p ≡ y) changes)
            (λ p alike. All-map (λ y. change_of p ≡ y) change_of left alike) left same)

        same_of_one : AllOne → AreSame
        same_of_one one = All-weaker (λ p. All (λ y. change_of p ≡ y) changes)
            (λ p. All (λ q. change_of p ≡ change_of q) left)
            (λ p alike. all_of_map (λ y. change_of p ≡ y) change_of left alike) left
            (all_of_map (λ x. All (λ y. x ≡ y) changes) change_of left one)

        kept_if_some : has_code_among k (variables_by_fate (is_fated_apart vs) vs) ≡ true → is_skipped like.0 ≡ false
        kept_if_some some = elim (cases_Bool (is_skipped like.0)) [
          | inl skips ↦
              let none : left ≡ [] = none_of_skipped s k like.0 skips ds remaining like.1 new in
              absurd (false≢true (sym (if_all_are_one
              (subst (λ l. All (λ x. All (λ y. x ≡ y) (map change_of l)) (map change_of l)) (sym none)
              (All-nil (λ x. All (λ y. x ≡ y) [])))) ∙ some))
          | inr kept ↦ kept
        ]
