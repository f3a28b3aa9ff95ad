-- Codes that fit another capture give an amendment that fits the file, with its variables, and that capture.
use Rattle.std.proofs.Common.{◌≡◌, ◌+◌, Bool, true, false, not, ◌∙◌, ◌&&◌, List, [], ◌∷◌, ◌++◌, length, Option, Some}
use Rattle.std.proofs.Common.{None, get_or, refl, sym, ap, ap₂, append_assoc, arith, inl, inr, if◌then◌else◌, ℕ, suc}
use Rattle.std.proofs.Common.{◌<◌, All, map, IsTrue, subst}
use Rattle.std.specs.Str.{bytes_eq}
use Rattle.std.specs.Cmp.Lexicographic.{pointwise, pointwise_decides}
use Rattle.std.proofs.lemmas.Bool.{cases_Bool, and_parts}
use Rattle.std.proofs.lemmas.List.{length-append, length-map, map-append}
use Rattle.std.proofs.lemmas.List.Elements.{filter-append, All-nil, All-cons, All-head, All-tail, All-append}
use Rattle.std.proofs.lemmas.Slice.Eq.{bytes_eq-Decides}
use Rattle.std.specs.Prelude.{is_some}
use Rattle.std.specs.List.{list_all}
use Rattle.vcd_core.specs.Word.{is_word}
use Rattle.vcd_core.specs.Sound.{IsSoundSignal}
use Rattle.vcd_text.specs.Grammar.{VariableDeclaration, is_skipped, kept_variables, ParseState}
use Rattle.vcd_text.specs.Meaning.{declared_signal, meaning}
use Rattle.vcd_text.proofs.read_back.Declarations.{sound_is_kept}
use Rattle.vcd_copy.proofs.pieces.Cuts.{all_parts}
use Rattle.vcd_amend.specs.Amendment.{Amendment, Fate, stays, fate_of, variable_left, flat_map_along, AmendedCode}
use Rattle.vcd_amend.specs.Amendment.{is_changed, first_with_code, amended_code, amended_variables}
use Rattle.vcd_amend.specs.CodedAmendment.{CodedSignal, fate_for, fates_for, derived_variable, coded_amendment}
use Rattle.vcd_amend.specs.CodedAmendment.{signals_of_coded, HasWave, IsCodedSignalOf, AreCodedSignalsOf}
use Rattle.vcd_amend.specs.CodedAmendment.{IsCodedDerived, CodesFit, CodedAmendmentGivesCapture}
use Rattle.vcd_amend.specs.AmendedMeaning.{class_of, FitsFate, FitsCode, FitsAmendedCode, FitsFile, amended_signal}
use Rattle.vcd_amend.specs.AmendedMeaning.{amended_meaning, amended_wave}
use Rattle.vcd_amend.proofs.amended.OneCode.{itself, same_bytes}
use Rattle.vcd_amend.proofs.shared.Lists.{is_there, some_passes, found_has, found_is}

-- ==== the variables of a file that is amended to mean another capture

-- what is declared in place of a variable, if this is left of it
abbrev pub with_coded_signal : VariableDeclaration → CodedSignal → VariableDeclaration
with_coded_signal d t = record d { words = t.signal.words; code = t.code }

-- what is declared in place of variables, if these are left of the kept ones
abbrev pub kept_to : (skipped : Bool) → VariableDeclaration → List (Option CodedSignal) → List VariableDeclaration
kept_to true d os = d ∷ []
kept_to false d [] = d ∷ []
kept_to false d (None ∷ os) = []
kept_to false d (Some t ∷ os) = with_coded_signal d t ∷ []

abbrev pub later : {A : Type 0} → (skipped : Bool) → List A → List A
later true os = os
later false [] = []
later false (o ∷ os) = os

abbrev pub declared_to : List VariableDeclaration → List (Option CodedSignal) → List VariableDeclaration
declared_to [] os = []
declared_to (d ∷ ds) os = kept_to (is_skipped d) d os ++ declared_to ds (later (is_skipped d) os)

-- a variable that stays is what is left of it
pub declared_one : (d : VariableDeclaration) (t : CodedSignal) → variable_left (fate_for d (Some t)) d
    ≡ with_coded_signal d t ∷ []
declared_one d t = elim (cases_Bool (pointwise bytes_eq d.words t.signal.words && bytes_eq d.code t.code)) [
  | inl same ↦
      let parts = and_parts (pointwise bytes_eq d.words t.signal.words) (bytes_eq d.code t.code) same in
      let words : d.words ≡ t.signal.words = (pointwise_decides bytes_eq-Decides d.words t.signal.words).0 parts.0 in
      let code : d.code ≡ t.code = (bytes_eq-Decides d.code t.code).0 parts.1 in
      rw same (ap₂ (λ w c. record d { words = w; code = c } ∷ []) words code)
  | inr apart ↦ rw apart refl
]

-- the element after a list
pub at_end : (fs : List Fate) (f : Fate) (gs : List Fate) → get_or (fs ++ f ∷ gs) (length fs) stays ≡ f
at_end [] f gs = refl
at_end (x ∷ fs) f gs = at_end fs f gs

pub one_kept : (before : List VariableDeclaration) (d : VariableDeclaration) (skipped : Bool) → is_skipped d ≡ skipped
    → length (kept_variables (before ++ d ∷ [])) ≡ length (kept_variables before) + (if skipped then 0 else 1)
one_kept before d true is = ap length (filter-append (λ d. not (is_skipped d)) before (d ∷ [])) ∙ length-append
    (kept_variables before) _ ∙ rw is refl
one_kept before d false is = ap length (filter-append (λ d. not (is_skipped d)) before (d ∷ [])) ∙ length-append
    (kept_variables before) _ ∙ rw is refl

-- as many are left as variables are kept
abbrev pub AsMany : List VariableDeclaration → List (Option CodedSignal) → Type 0
AsMany ds os = length (kept_variables ds) ≡ length os

-- the variables that are left
pub variables_to : (a : Amendment) (before ds : List VariableDeclaration) (os : List (Option CodedSignal))
    (fs : List Fate)
    → a.fates ≡ fs ++ fates_for (kept_variables ds) os → length fs ≡ length (kept_variables before) → AsMany ds os
    → flat_map_along (λ before d. variable_left (fate_of a before d) d) before ds ≡ declared_to ds os
variables_to a before [] os fs is long many = refl
variables_to a before (d ∷ ds) os fs is long many =
    by_kind (is_skipped d) refl os is many (λ os fs is long many. variables_to a (before ++ d ∷ []) ds os fs is long
    many)
  where
    by_kind : (skipped : Bool) → is_skipped d ≡ skipped → (os : List (Option CodedSignal))
        → a.fates ≡ fs ++ fates_for (kept_variables (d ∷ ds)) os → AsMany (d ∷ ds) os
        → ((os : List (Option CodedSignal)) (fs : List Fate) → a.fates ≡ fs ++ fates_for (kept_variables ds) os
        → length fs ≡ length (kept_variables (before ++ d ∷ [])) → AsMany ds os
        → flat_map_along (λ before d. variable_left (fate_of a before d) d) (before ++ d ∷ []) ds ≡ declared_to ds os)
        → variable_left (fate_of a before d) d ++ flat_map_along (λ before d. variable_left (fate_of a before d) d)
        (before ++ d ∷ []) ds ≡ kept_to skipped d os ++ declared_to ds (later skipped os)
    by_kind true skips os is many again =
        let fate : fate_of a before d ≡ stays = rw skips refl in
        let none : kept_variables (d ∷ ds) ≡ kept_variables ds = rw skips refl in
        ap₂ (λ x y. x ++ y) (ap (λ f. variable_left f d) fate) (again os fs (is ∙ ap (λ l. fs
        ++ fates_for l os) none) (omega (arith, long, one_kept before d true skips)) (ap length (sym none) ∙ many))
    by_kind false kept [] is many again =
        let one : kept_variables (d ∷ ds) ≡ d ∷ kept_variables ds = rw kept refl in
        let never : length (d ∷ kept_variables ds) ≡ 0 = ap length (sym one) ∙ many in
        absurd (omega (arith, never))
    by_kind false kept (o ∷ os) is many again =
        let one : kept_variables (d ∷ ds) ≡ d ∷ kept_variables ds = rw kept refl in
        let all : a.fates ≡ fs ++ fate_for d o ∷ fates_for (kept_variables ds) os = is ∙ ap
        (λ l. fs ++ fates_for l (o ∷ os)) one in
        let fate : fate_of a before d ≡ fate_for d o = ap (λ (b : Bool). if b then stays else get_or a.fates (length
        (kept_variables before)) stays) kept ∙ ap (λ l. get_or l (length (kept_variables before)) stays) all ∙ ap (λ n.
        get_or (fs ++ fate_for d o ∷ fates_for (kept_variables ds) os) n stays) (sym long) ∙ at_end fs (fate_for d o) _
        in
        let more : length (d ∷ kept_variables ds) ≡ length (o ∷ os) = ap length (sym one) ∙ many in
        let rest = again os (fs ++ fate_for d o ∷ []) (all ∙ sym (append_assoc fs (fate_for d o
        ∷ []) (fates_for (kept_variables ds) os))) (length-append fs _ ∙ omega (
          arith,
          long,
          one_kept before d false
              kept,
        )) (omega (arith, more)) in
        ap₂ (λ x y. x ++ y) (ap (λ f. variable_left f d) fate ∙ here o) rest
      where
        here : (o : Option CodedSignal) → variable_left (fate_for d o) d ≡ kept_to false d (o ∷ os)
        here None = refl
        here (Some t) = declared_one d t

-- ==== codes that fit another capture give an amendment that fits the file, and that capture

-- a kept variable has its size
pub kept_class : (d : VariableDeclaration) → is_skipped d ≡ false → class_of d ≡ Some d.size
kept_class d kept = rw kept refl

-- the new name and the new code are words
fits_changed : (b : Bool) (words : List (List ℕ)) (code : List ℕ) → list_all is_word words ≡ true → 0 < length words
    → is_word code ≡ true → FitsFate (if b then stays else is_changed words code)
fits_changed true words code word named coded = tt
fits_changed false words code word named coded = (word, named, coded)

module _ (s : ParseState) (left : List (Option CodedSignal)) (derived : List CodedSignal) (cs : List AmendedCode)
    (fits : CodesFit s left derived cs) where
  abbrev a : Amendment
  a = coded_amendment s left derived cs

  -- as many are left as variables are kept
  as_many : (ds : List VariableDeclaration) (os : List (Option CodedSignal)) → AreCodedSignalsOf s cs ds os
      → length ds ≡ length os
  as_many [] [] all = refl
  as_many [] (o ∷ os) all = absurd all
  as_many (d ∷ ds) [] all = absurd all
  as_many (d ∷ ds) (None ∷ os) all = ap suc_of (as_many ds os all)
    where
      suc_of : ℕ → ℕ
      suc_of n = suc n
  as_many (d ∷ ds) (Some t ∷ os) (here, all) = ap suc_of (as_many ds os all)
    where
      suc_of : ℕ → ℕ
      suc_of n = suc n

  fates_fit : (ds : List VariableDeclaration) (os : List (Option CodedSignal)) → AreCodedSignalsOf s cs ds os
      → All FitsFate (fates_for ds os)
  fates_fit [] os all = All-nil FitsFate
  fates_fit (d ∷ ds) [] all = All-nil FitsFate
  fates_fit (d ∷ ds) (None ∷ os) all = All-cons FitsFate _ _ tt (fates_fit ds os all)
  fates_fit (d ∷ ds) (Some t ∷ os) (here, all) = All-cons FitsFate _ _ (fits_changed (pointwise bytes_eq d.words
      t.signal.words && bytes_eq d.code t.code) t.signal.words t.code here.words here.named here.word) (fates_fit ds os
      all)

  variables_are : amended_variables a s.declared ≡ declared_to s.declared left ++ map derived_variable derived
  variables_are = ap (λ l. l ++ map derived_variable derived) (variables_to a [] s.declared left [] refl refl (as_many
      (kept_variables s.declared) left fits.variables))

  -- ---- one variable of the file

  abbrev Fits : VariableDeclaration → Type 0
  Fits d = FitsCode (amended_code d.code cs) (first_with_code d.code s.declared) d

  module _ (xs : List VariableDeclaration) (d : VariableDeclaration) (ys : List VariableDeclaration)
      (is : s.declared ≡ xs ++ d ∷ ys) where
    first : (e : VariableDeclaration) × (first_with_code d.code s.declared ≡ Some e)
    first = is_there (first_with_code d.code s.declared) (ap (λ l. is_some (first_with_code d.code l)) is
        ∙ some_passes (λ (e : VariableDeclaration). bytes_eq d.code e.code) xs d ys (itself d.code))

    like_first : class_of d ≡ class_of first.0
    like_first = All-head (λ e. e.code ≡ d.code → class_of e ≡ class_of first.0) d ys (all_parts (λ e. e.code ≡ d.code
        → class_of e ≡ class_of first.0) xs (d ∷ ys) (subst (All (λ e. e.code ≡ d.code → class_of e ≡ class_of first.0))
        is (fits.alike d.code first.0 first.1))).1 refl

    -- it fits its own code
    own_fits : (o : Option AmendedCode) → amended_code d.code cs ≡ o → FitsCode o (first_with_code d.code s.declared) d
    own_fits None none = subst (λ f. FitsCode None f d) (sym first.1) like_first
    own_fits (Some c) found =
        let fit = found_has (FitsAmendedCode a s) (λ (c : AmendedCode). bytes_eq d.code c.code) cs c fits.codes found in
        let same : d.code ≡ c.code = same_bytes d.code c.code (found_is (λ (c : AmendedCode). bytes_eq d.code c.code) cs
        c found) in
        like_first ∙ fit.fits first.0 (ap (λ k. first_with_code k s.declared) (sym same) ∙ first.1)

    module _ (t : CodedSignal) (here : IsCodedSignalOf s cs d t) (kept : is_skipped d ≡ false) where
      new_fits : (o : Option AmendedCode) → amended_code t.code cs ≡ o → HasWave s d t o
          → FitsCode o (first_with_code t.code s.declared) (with_coded_signal d t)
      new_fits None none (same, wave) = subst (λ f. FitsCode None f (with_coded_signal d t))
          (sym (ap (λ k. first_with_code k s.declared) same ∙ first.1)) like_first
      new_fits (Some c) found (width, wave) = kept_class d kept ∙ ap Some (sym width)

      wave_is : (o : Option AmendedCode) → HasWave s d t o
          → amended_wave o (declared_signal s.value_changes s.tick (with_coded_signal d t)).changes ≡ t.signal.changes
      wave_is None (same, wave) = ap (λ k. (declared_signal s.value_changes s.tick (record d { code = k })).changes)
          same
          ∙ sym wave
      wave_is (Some c) (width, wave) = sym wave

      signal_is : amended_signal a s (with_coded_signal d t) ≡ t.signal
      signal_is =
          let wave = wave_is (amended_code t.code cs) here.wave in
          λ i. record {
            scopes = sym here.scopes i;
            kind = sym here.kind i;
            words = t.signal.words;
            width = sym here.width i;
            changes = wave i;
          }

  -- ---- all variables of the file

  -- what holds of those that are left, from a place in the file on
  record HoldsFrom (ds : List VariableDeclaration) (os : List (Option CodedSignal)) : Type 0 where
    fitting : All Fits (declared_to ds os)
    signals : map (amended_signal a s) (kept_variables (declared_to ds os)) ≡ signals_of_coded os

  holds_from : (xs ds : List VariableDeclaration) (os : List (Option CodedSignal)) → s.declared ≡ xs ++ ds
      → AreCodedSignalsOf s cs (kept_variables ds) os → HoldsFrom ds os
  holds_from xs [] [] is all = record { fitting = All-nil Fits; signals = refl }
  holds_from xs [] (o ∷ os) is all = absurd all
  holds_from xs (d ∷ ds) os is all = by_kind (is_skipped d) refl os all (λ os more. holds_from (xs ++ d ∷ []) ds os (is
      ∙ sym (append_assoc xs (d ∷ []) ds)) more)
    where
      by_kind : (skipped : Bool) → is_skipped d ≡ skipped → (os : List (Option CodedSignal))
          → AreCodedSignalsOf s cs (kept_variables (d ∷ ds)) os
          → ((os : List (Option CodedSignal)) → AreCodedSignalsOf s cs (kept_variables ds) os → HoldsFrom ds os)
          → HoldsFrom (d ∷ ds) os
      by_kind true skips os all again =
          let none : kept_variables (d ∷ ds) ≡ kept_variables ds = rw skips refl in
          let rest = again os (subst (λ l. AreCodedSignalsOf s cs l os) none all) in
          record {
            fitting = rw skips (All-cons Fits d _ (own_fits xs d ds is (amended_code d.code cs) refl) rest.fitting);
            signals = rw skips (rw skips rest.signals);
          }
      by_kind false kept os all again =
          let one : kept_variables (d ∷ ds) ≡ d ∷ kept_variables ds = rw kept refl in
          by_left os (subst (λ l. AreCodedSignalsOf s cs l os) one all) again
        where
          by_left : (os : List (Option CodedSignal)) → AreCodedSignalsOf s cs (d ∷ kept_variables ds) os
              → ((os : List (Option CodedSignal)) → AreCodedSignalsOf s cs (kept_variables ds) os → HoldsFrom ds os)
              → HoldsFrom (d ∷ ds) os
          by_left [] all again = absurd all
          by_left (None ∷ os) all again =
              let rest = again os all in
              record { fitting = rw kept rest.fitting; signals = rw kept rest.signals }
          by_left (Some t ∷ os) (here, all) again =
              let rest = again os all in
              record {
                fitting = rw kept (All-cons Fits (with_coded_signal d t) _ (new_fits xs d ds is t here kept
                    (amended_code t.code cs)
                    refl here.wave) rest.fitting);
                signals = rw kept (rw kept (ap₂ (λ x l. x ∷ l) (signal_is xs d ds is t here kept) rest.signals));
              }

  -- ---- derived signals

  derived_is : (t : CodedSignal) → IsCodedDerived s cs t → amended_signal a s (derived_variable t) ≡ t.signal
  derived_is t here = ap (λ o. record t.signal {
    changes = amended_wave o (declared_signal s.value_changes s.tick (derived_variable
        t)).changes;
  }) here.found ∙ ap (λ l. record t.signal { changes = l }) (sym here.wave)

  abbrev IsAdded : VariableDeclaration → Type 0
  IsAdded d = IsTrue (is_word d.code) × IsSoundSignal s.tick (amended_signal a s d)

  record HoldsDerived (ts : List CodedSignal) : Type 0 where
    fitting : All Fits (map derived_variable ts)
    added : All IsAdded (map derived_variable ts)
    signals : map (amended_signal a s) (kept_variables (map derived_variable ts)) ≡ map (λ t. t.signal) ts

  holds_derived : (ts : List CodedSignal) → All (IsCodedDerived s cs) ts → HoldsDerived ts
  holds_derived [] all = record { fitting = All-nil Fits; added = All-nil IsAdded; signals = refl }
  holds_derived (t ∷ ts) all =
      let here = All-head (IsCodedDerived s cs) t ts all in
      let rest = holds_derived ts (All-tail (IsCodedDerived s cs) t ts all) in
      let same = derived_is t here in
      let kept : is_skipped (derived_variable t) ≡ false = sound_is_kept s.tick 0 t.signal here.sound in
      let class : class_of (derived_variable t) ≡ Some here.by.width = kept_class (derived_variable t) kept
      ∙ ap Some (sym here.width)
      in
      record {
        fitting = All-cons Fits (derived_variable t) _ (subst (λ o. FitsCode o (first_with_code t.code s.declared)
            (derived_variable t)) (sym
            here.found) class) rest.fitting;
        added = All-cons IsAdded (derived_variable t) _ (here.word, subst (IsSoundSignal s.tick) (sym same) here.sound)
            rest.added;
        signals = rw kept (ap₂ (λ x l. x ∷ l) same rest.signals);
      }

  -- ---- the whole

  pub signals_are : (amended_meaning a s).signals ≡ signals_of_coded left ++ map (λ t. t.signal) derived
  signals_are = ap (λ l. map (amended_signal a s) (kept_variables l)) variables_are ∙ ap (map (amended_signal a s))
      (filter-append (λ d. not (is_skipped d)) (declared_to s.declared left) (map derived_variable derived))
      ∙ map-append (amended_signal a s) (kept_variables (declared_to s.declared left)) (kept_variables (map
      derived_variable derived)) ∙ ap₂ (λ x y. x ++ y) (holds_from [] s.declared left refl fits.variables).signals
      (holds_derived derived fits.added).signals

  pub amendment_fits : FitsFile a s
  amendment_fits = record {
    fates = fates_fit (kept_variables s.declared) left fits.variables;
    added = (holds_derived derived fits.added).added;
    codes = fits.codes;
    apart = fits.apart;
    variables = subst (All Fits) (sym variables_are) (All-append Fits _ _ (holds_from [] s.declared left refl
        fits.variables).fitting (holds_derived derived fits.added).fitting);
    few =
        let long : length (amended_meaning a s).signals ≡ length (signals_of_coded left) + length derived = ap length
        signals_are
        ∙ length-append (signals_of_coded left) _ ∙ ap (λ n. length (signals_of_coded left) + n)
        (length-map derived (λ (t : CodedSignal). t.signal)) in
        omega (arith, long, fits.few);
  }

pub coded_amendment_gives : CodedAmendmentGivesCapture
coded_amendment_gives s left derived cs fits = (
  amendment_fits s left derived cs fits,
  ap (λ ss. record (meaning s) { signals = ss }) (signals_are s left derived cs fits),
)
