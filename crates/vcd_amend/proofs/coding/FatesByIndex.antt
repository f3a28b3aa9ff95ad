-- Fates and added variables by the indices of codes, and the parts of an amendment put together.
use Rattle.std.proofs.Common.{◌≡◌, ℕ, ◌+◌, ◌<◌, List, [], ◌∷◌, ◌++◌, length, take, get_or, map, Option, None, refl, sym}
use Rattle.std.proofs.Common.{ap, ◌∙◌, arith, zero, suc, Bool, Some, ap₂, inl, inr, subst, drop}
use Rattle.std.proofs.lemmas.List.{take_more, map-append, length-take, length-map}
use Rattle.std.specs.Prelude.{find, option_map}
use Rattle.std.specs.List.{slice_get, drop-map}
use Rattle.std.proofs.lemmas.Bool.{cases_Bool}
use Rattle.std.proofs.lemmas.Option.{slice_get-map}
use Rattle.vcd_core.specs.Contents.{SignalContents}
use Rattle.vcd_text.specs.Grammar.{ParseState, VariableDeclaration}
use Rattle.vcd_amend.specs.Amendment.{AmendedCode, Fate}
use Rattle.vcd_amend.specs.CodedAmendment.{derived_variable, fate_for}
use Rattle.vcd_amend.specs.inside.coding.KeptSignals.{KeptContents, fate_of_kept, fates_of_kept, changed_wave}
use Rattle.vcd_amend.specs.inside.coding.KeptSignals.{wave_of_kept, code_of_kept, held_codes, changed_waves}
use Rattle.vcd_amend.specs.inside.coding.KeptSignals.{coded_waves, amendment_of_kept}
use Rattle.vcd_amend.specs.inside.coding.Codes.{fate_by_index, fates_by_index, variables_by_codes, code_or}
use Rattle.vcd_amend.specs.inside.coding.Codes.{code_by_index, codes_from}
use Rattle.vcd_amend.specs.GivenCodes.{NewWave, CodedWave, same_new_wave, coded_derived, code_of_coded}
use Rattle.vcd_amend.specs.GivenCodes.{derived_new_wave}
use Rattle.vcd_amend.specs.inside.coding.ChangedWaves.{IsFirst, IsIndexOf, AreIndices}
use Rattle.vcd_amend.specs.FreshCodes.{fresh_code}
use Rattle.vcd_amend.proofs.coding.ChangedWaves.{first_later}
use Rattle.vcd_amend.proofs.given_codes.CodedWaves.{waves_are}
use Rattle.vcd_amend.proofs.given_codes.FreshCodes.{fresh_codes_are_fresh}

-- ==== fates and added variables, one more at a time

one_more_fate : (cs : List AmendedCode) (ks : List KeptContents) (os : List (Option ℕ)) (k : KeptContents)
    (o : Option ℕ) → length ks ≡ length os
    → fates_by_index cs (ks ++ k ∷ []) (os ++ o ∷ []) ≡ fates_by_index cs ks os ++ fate_by_index cs k k.left o ∷ []
one_more_fate cs [] [] k o long = refl
one_more_fate cs [] (p ∷ os) k o long = absurd (omega (arith, long))
one_more_fate cs (j ∷ ks) [] k o long = absurd (omega (arith, long))
one_more_fate cs (j ∷ ks) (p ∷ os) k o long =
    ap (λ l. fate_by_index cs j j.left p ∷ l) (one_more_fate cs ks os k o (omega (arith, long)))

pub more_fates : {A : Type 0} (view : A → KeptContents) (cs : List AmendedCode) (xs : List A) (os : List (Option ℕ))
    (i : ℕ) (x : A) (o : Option ℕ) → i < length xs → i < length os → x ≡ get_or xs i x → o ≡ get_or os i None
    → fates_by_index cs (map view (take (i + 1) xs)) (take (i + 1) os)
    ≡ fates_by_index cs (map view (take i xs)) (take i os) ++ fate_by_index cs (view x) (view x).left o ∷ []
more_fates view cs xs os i x o early late here there =
    let first : take (i + 1) xs ≡ take i xs ++ x ∷ [] =
    take_more xs i x early ∙ ap (λ y. take i xs ++ y ∷ []) (sym here) in
    let second : take (i + 1) os ≡ take i os ++ o ∷ [] =
    take_more os i None late ∙ ap (λ y. take i os ++ y ∷ []) (sym there) in
    ap (λ l. fates_by_index cs (map view l) (take (i + 1) os)) first
    ∙ ap (λ l. fates_by_index cs (map view (take i xs ++ x ∷ [])) l) second
    ∙ ap (λ l. fates_by_index cs l (take i os ++ o ∷ [])) (map-append view (take i xs) (x ∷ []))
    ∙ one_more_fate cs (map view (take i xs)) (take i os) (view x) o (omega (
      arith,
      length-map (take i xs) view,
      length-take i xs,
      length-take i os,
    ))

one_more_variable : (ns : List SignalContents) (cs : List AmendedCode) (n : SignalContents) (c : AmendedCode)
    → length ns ≡ length cs → variables_by_codes (ns ++ n ∷ []) (cs ++ c ∷ []) ≡ variables_by_codes ns cs
    ++ derived_variable (record { signal = n; code = c.code }) ∷ []
one_more_variable [] [] n c long = refl
one_more_variable [] (d ∷ cs) n c long = absurd (omega (arith, long))
one_more_variable (m ∷ ns) [] n c long = absurd (omega (arith, long))
one_more_variable (m ∷ ns) (d ∷ cs) n c long =
    ap (λ l. derived_variable (record { signal = m; code = d.code }) ∷ l) (one_more_variable ns cs n c
    (omega (arith, long)))

pub more_variables : {A B : Type 0} (view : A → SignalContents) (view_code : B → AmendedCode)
    (xs : List A) (ys : List B) (i : ℕ) (x : A) (y : B) → i < length xs → i < length ys
    → x ≡ get_or xs i x → y ≡ get_or ys i y
    → variables_by_codes (map view (take (i + 1) xs)) (map view_code (take (i + 1) ys))
    ≡ variables_by_codes (map view (take i xs)) (map view_code (take i ys))
    ++ derived_variable (record { signal = view x; code = (view_code y).code }) ∷ []
more_variables view view_code xs ys i x y early late here there =
    let first : take (i + 1) xs ≡ take i xs ++ x ∷ [] =
    take_more xs i x early ∙ ap (λ z. take i xs ++ z ∷ []) (sym here) in
    let second : take (i + 1) ys ≡ take i ys ++ y ∷ [] =
    take_more ys i y late ∙ ap (λ z. take i ys ++ z ∷ []) (sym there) in
    ap (λ l. variables_by_codes (map view l) (map view_code (take (i + 1) ys))) first
    ∙ ap (λ l. variables_by_codes (map view (take i xs ++ x ∷ [])) (map view_code l)) second
    ∙ ap (λ l. variables_by_codes l (map view_code (take i ys ++ y ∷ []))) (map-append view (take i xs) (x ∷ []))
    ∙ ap (variables_by_codes (map view (take i xs) ++ view x ∷ [])) (map-append view_code (take i ys) (y ∷ []))
    ∙ one_more_variable (map view (take i xs)) (map view_code (take i ys)) (view x) (view_code y) (omega (
      arith,
      length-map (take i xs) view,
      length-map (take i ys) view_code,
      length-take i xs,
      length-take i ys,
    ))

-- the rest of a list adds nothing
pub variables_all : (ns : List SignalContents) (cs : List AmendedCode) (n : ℕ) → n ≡ length ns
    → variables_by_codes ns (take n cs) ≡ variables_by_codes ns cs
variables_all [] cs n long = refl
variables_all (m ∷ ns) [] n long = rw long refl
variables_all (m ∷ ns) (c ∷ cs) n long =
    rw long (ap (λ l. derived_variable (record { signal = m; code = c.code }) ∷ l)
    (variables_all ns cs (length ns) refl))

-- ==== the fates and added variables by the indices of codes are those of coded waves

-- ---- coded waves

-- the first wave that passes a test is found
found_first : (p : NewWave → Bool) (gs : List CodedWave) (i : ℕ) → IsFirst p (map (λ (g : CodedWave). g.wave) gs) i
    → find (λ (g : CodedWave). p g.wave) gs ≡ slice_get gs i
found_first p [] i first = absurd first
found_first p (g ∷ gs) zero first = rw first refl
found_first p (g ∷ gs) (suc i) (other, first) = rw other (found_first p gs i first)

code_there : (o : Option CodedWave) (own : List ℕ)
    → code_or (option_map (λ (g : CodedWave). g.coded) o) own ≡ code_of_coded o own
code_there None own = refl
code_there (Some g) own = refl

-- ---- fates

module _ (gs : List CodedWave) (ws more : List NewWave) (are : map (λ (g : CodedWave). g.wave) gs ≡ ws ++ more) where
  abbrev cs : List AmendedCode
  cs = map (λ (g : CodedWave). g.coded) gs

  code_is : (k : KeptContents) (n : SignalContents) (o : Option ℕ) → IsIndexOf ws (changed_wave k (Some n)) o
      → code_by_index cs o k.variable.code ≡ code_of_kept gs k n
  code_is k n o is = elim (cases_Bool k.is_unchanged) [
    | inl same ↦
        let none : o ≡ None = rw same at is in
        ap (λ o. code_by_index cs o k.variable.code) none ∙ sym (rw same refl)
    | inr other ↦
        let there : IsIndexOf ws (wave_of_kept k n ∷ []) o = rw other at is in
        let first = subst (λ l. IsFirst (same_new_wave (wave_of_kept k n)) l there.0) (sym are)
        (first_later (same_new_wave (wave_of_kept k n)) ws more there.0 there.2) in
        ap (λ o. code_by_index cs o k.variable.code) there.1
        ∙ ap (λ o. code_or o k.variable.code) (slice_get-map (λ (g : CodedWave). g.coded) gs there.0)
        ∙ code_there (slice_get gs there.0) k.variable.code
        ∙ ap (λ o. code_of_coded o k.variable.code) (sym (found_first (same_new_wave (wave_of_kept k n)) gs there.0
        first))
        ∙ sym (rw other refl)
  ]

  fate_is : (k : KeptContents) (left : Option SignalContents) (o : Option ℕ) → IsIndexOf ws (changed_wave k left) o
      → fate_by_index cs k left o ≡ fate_of_kept gs k left
  fate_is k None o is = refl
  fate_is k (Some n) o is = ap (λ code. fate_for k.variable (Some (record { signal = n; code = code })))
      (code_is k n o is)

  fates_are : (ks : List KeptContents) (os : List (Option ℕ)) → AreIndices ws ks os
      → fates_by_index cs ks os ≡ fates_of_kept gs ks
  fates_are [] [] all = refl
  fates_are [] (o ∷ os) all = absurd all
  fates_are (k ∷ ks) [] all = absurd all
  fates_are (k ∷ ks) (o ∷ os) (one, all) = ap₂ (λ f l. f ∷ l) (fate_is k k.left o one) (fates_are ks os all)

-- ---- added variables

added_are : (gs : List CodedWave) (ns : List SignalContents)
    → variables_by_codes ns (map (λ (g : CodedWave). g.coded) gs) ≡ map derived_variable (coded_derived gs ns)
added_are gs [] = none gs
  where
    none : (gs : List CodedWave) → [] ≡ map derived_variable (coded_derived gs [])
    none [] = refl
    none (g ∷ gs) = refl
added_are [] (n ∷ ns) = refl
added_are (g ∷ gs) (n ∷ ns) = ap (λ l. derived_variable (record { signal = n; code = g.coded.code }) ∷ l)
    (added_are gs ns)

-- ==== the parts of an amendment, found one after another, are the whole

module _ (s : ParseState) (ks : List KeptContents) (derived : List SignalContents) (ws : List NewWave)
    (os : List (Option ℕ)) (cs : List AmendedCode) (waves : ws ≡ changed_waves ks) (indices : AreIndices ws ks os)
    (codes : cs ≡ codes_from s (held_codes ks) 0 (ws ++ map derived_new_wave derived)) where
  abbrev gs : List CodedWave
  gs = coded_waves (fresh_code s) ks derived

  abbrev given : List AmendedCode
  given = map (λ (g : CodedWave). g.coded) gs

  codes_are : cs ≡ given
  codes_are = codes ∙ ap (λ l. codes_from s (held_codes ks) 0 (l ++ map derived_new_wave derived)) waves

  have_waves : map (λ (g : CodedWave). g.wave) gs ≡ ws ++ map derived_new_wave derived
  have_waves = waves_are (fresh_code s) s (fresh_codes_are_fresh s) (held_codes ks) 0
      (changed_waves ks ++ map derived_new_wave derived) ∙ ap (λ l. l ++ map derived_new_wave derived) (sym waves)

  pub assembled : (fates : List Fate) (added : List VariableDeclaration) (count : ℕ)
      → fates ≡ fates_by_index cs ks os → added ≡ variables_by_codes derived (drop count cs) → count ≡ length ws
      → record { fates = fates; added = added; codes = cs } ≡ amendment_of_kept (fresh_code s) ks derived
  assembled fates added count fates_is added_is counted =
      let all_fates : fates ≡ fates_of_kept gs ks = fates_is ∙ ap (λ l. fates_by_index l ks os) codes_are
      ∙ fates_are gs ws (map derived_new_wave derived) have_waves ks os indices in
      let all_added : added ≡ map derived_variable (coded_derived (drop (length (changed_waves ks)) gs) derived) =
      added_is ∙ ap₂ (λ n l. variables_by_codes derived (drop n l)) (counted ∙ ap length waves) codes_are
      ∙ ap (variables_by_codes derived) (drop-map (λ (g : CodedWave). g.coded) (length (changed_waves ks)) gs)
      ∙ added_are (drop (length (changed_waves ks)) gs) derived in
      λ i. record { fates = all_fates i; added = all_added i; codes = codes_are i }
