-- The codes that are given to new waves.
use Rattle.std.proofs.Common.{◌≡◌, ℕ, ◌+◌, ◌<◌, true, false, ◌∙◌, All, List, [], ◌∷◌, map, Option, Some, None, IsTrue}
use Rattle.std.proofs.Common.{refl, sym, ap, arith, inl, inr}
use Rattle.std.specs.Prelude.{bytes_eq, is_some}
use Rattle.std.proofs.lemmas.Bool.{cases_Bool, false≢true, or_left, or_right}
use Rattle.std.proofs.lemmas.Option.{same_Some}
use Rattle.std.proofs.lemmas.List.Elements.{All-nil, All-cons, All-head, All-tail}
use Rattle.vcd_core.specs.Word.{is_word, is_one_of}
use Rattle.vcd_core.specs.Wave.{value_at, changes_of, IsWave, AllUpTo}
use Rattle.vcd_core.proofs.shared.Waves.{changes_of-value_at}
use Rattle.vcd_text.specs.Grammar.{ParseState, ValueChange, VariableDeclaration}
use Rattle.vcd_text.specs.Letters.{extension}
use Rattle.vcd_text.specs.Meaning.{changes_of_code}
use Rattle.vcd_amend.specs.Amendment.{AmendedCode, first_with_code, amended_code}
use Rattle.vcd_amend.specs.AmendedMeaning.{AreApart, class_of}
use Rattle.vcd_amend.specs.GivenCodes.{NewWave, CodedWave, free_code, coded_wave, coded_waves_from, next_fresh}
use Rattle.vcd_amend.specs.GivenCodes.{also_taken}
use Rattle.vcd_amend.specs.FreshCodes.{AreFresh}
use Rattle.vcd_amend.proofs.amended.OneCode.{of_code, itself, differ}

-- a free code is the own one, and not taken
pub free_is : (taken : List (List ℕ)) (own : Option (List ℕ)) (code : List ℕ) → free_code taken own ≡ Some code
    → (own ≡ Some code) × (is_one_of taken code ≡ false)
free_is taken None code is = let never : None ≡ Some code = is in absurd (cc)
free_is taken (Some c) code is = elim (cases_Bool (is_one_of taken c)) [
  | inl there ↦ let never : None ≡ Some code = rw there at is in absurd (cc)
  | inr free ↦
      let same : c ≡ code = same_Some c code (rw free at is) in
      (ap Some same, ap (is_one_of taken) (sym same) ∙ free)
]

-- no value change of a code that is not declared
none_of_code : (declared : List VariableDeclaration) (code : List ℕ) (vs : List ValueChange)
    → All (λ v. IsTrue (is_some (first_with_code v.code declared))) vs → first_with_code code declared ≡ None
    → of_code code vs ≡ []
none_of_code declared code [] known none = refl
none_of_code declared code (v ∷ vs) known none =
    let P = λ (v : ValueChange). IsTrue (is_some (first_with_code v.code declared)) in
    let here : is_some (first_with_code v.code declared) ≡ true = All-head P v vs known in
    let apart : bytes_eq v.code code ≡ false = differ v.code code (λ same. false≢true (sym (ap
    (λ k. is_some (first_with_code k declared)) same ∙ ap is_some none) ∙ here)) in
    rw apart (none_of_code declared code vs (All-tail P v vs known) none)

module _ (fresh : ℕ → List ℕ) (s : ParseState) (are_fresh : AreFresh s fresh) where
  -- the own code of a new wave is one of the file
  abbrev pub OwnKnown : NewWave → Type 0
  OwnKnown w = (code : List ℕ) → w.own ≡ Some code → is_some (first_with_code code s.declared) ≡ true

  -- a code of the file is no fresh one
  not_fresh : (code : List ℕ) → is_some (first_with_code code s.declared) ≡ true → (i : ℕ)
      → code ≡ fresh i → ⊥
  not_fresh code known i same =
      false≢true (sym (ap (λ k. is_some (first_with_code k s.declared)) same ∙ ap is_some (are_fresh.unknown i))
      ∙ known)

  -- the amended codes of coded waves
  abbrev pub amended_of : List CodedWave → List AmendedCode
  amended_of gs = map (λ g. g.coded) gs

  -- a code that is taken is not given
  pub taken_not_given : (k : List ℕ) (taken : List (List ℕ)) (n : ℕ) (ws : List NewWave)
      → is_some (first_with_code k s.declared) ≡ true → is_one_of taken k ≡ true
      → amended_code k (amended_of (coded_waves_from fresh taken n ws)) ≡ None
  taken_not_given k taken n [] known there = refl
  taken_not_given k taken n (w ∷ ws) known there = by_code (free_code taken w.own) refl
      (λ taken n there. taken_not_given k taken n ws known there)
    where
      by_code : (o : Option (List ℕ)) → free_code taken w.own ≡ o
          → ((taken : List (List ℕ)) (n : ℕ) → is_one_of taken k ≡ true
          → amended_code k (amended_of (coded_waves_from fresh taken n ws)) ≡ None)
          → amended_code k (amended_of (coded_wave fresh n w o ∷ coded_waves_from fresh (also_taken taken o)
          (next_fresh n o) ws)) ≡ None
      by_code None is again = rw (differ k (fresh n) (not_fresh k known n)) (again taken (n + 1) there)
      by_code (Some code) is again =
          let free = (free_is taken w.own code is).1 in
          rw (differ k code (λ same. false≢true (sym (ap (is_one_of taken) same ∙ free) ∙ there)))
          (again (code ∷ taken) n (or_right _ _ there))

  -- an earlier fresh code is not given
  fresh_not_given : (i : ℕ) (taken : List (List ℕ)) (n : ℕ) (ws : List NewWave) → i < n → All OwnKnown ws
      → amended_code (fresh i) (amended_of (coded_waves_from fresh taken n ws)) ≡ None
  fresh_not_given i taken n [] early known = refl
  fresh_not_given i taken n (w ∷ ws) early known = by_code (free_code taken w.own) refl
      (λ taken n early. fresh_not_given i taken n ws early (All-tail OwnKnown w ws known))
    where
      by_code : (o : Option (List ℕ)) → free_code taken w.own ≡ o
          → ((taken : List (List ℕ)) (n : ℕ) → i < n
          → amended_code (fresh i) (amended_of (coded_waves_from fresh taken n ws)) ≡ None)
          → amended_code (fresh i) (amended_of (coded_wave fresh n w o ∷ coded_waves_from fresh (also_taken taken o)
          (next_fresh n o) ws))
          ≡ None
      by_code None is again = rw (differ (fresh i) (fresh n) (λ same. let is : i ≡ n = are_fresh.apart i n same in
          absurd (omega arith))) (again taken (n + 1) (omega arith))
      by_code (Some code) is again =
          let own = (free_is taken w.own code is).0 in
          rw (differ (fresh i) code (λ same. not_fresh code (All-head OwnKnown w ws known code own) i (sym same)))
          (again (code ∷ taken) n early)

  -- the codes that are given are apart
  pub coded_apart : (taken : List (List ℕ)) (n : ℕ) (ws : List NewWave) → All OwnKnown ws
      → AreApart (amended_of (coded_waves_from fresh taken n ws))
  coded_apart taken n [] known = tt
  coded_apart taken n (w ∷ ws) known = by_code (free_code taken w.own) refl
      (λ taken n. coded_apart taken n ws (All-tail OwnKnown w ws known))
    where
      by_code : (o : Option (List ℕ)) → free_code taken w.own ≡ o
          → ((taken : List (List ℕ)) (n : ℕ) → AreApart (amended_of (coded_waves_from fresh
          taken n ws)))
          → AreApart (amended_of (coded_wave fresh n w o ∷ coded_waves_from fresh (also_taken taken o) (next_fresh n o)
          ws))
      by_code None is again = (
        fresh_not_given n taken (n + 1) ws (omega arith) (All-tail OwnKnown w ws known),
        again taken (n + 1),
      )
      by_code (Some code) is again =
          let own = (free_is taken w.own code is).0 in (
            taken_not_given code (code ∷ taken) n ws (All-head OwnKnown w ws known code own)
                (or_left _ _ (itself code)),
            again (code ∷ taken) n,
          )

  -- the new waves of coded waves
  pub waves_are : (taken : List (List ℕ)) (n : ℕ) (ws : List NewWave) → map (λ g. g.wave) (coded_waves_from fresh taken
      n ws) ≡ ws
  waves_are taken n [] = refl
  waves_are taken n (w ∷ ws) = by_code (free_code taken w.own) (λ taken n. waves_are taken n ws)
    where
      by_code : (o : Option (List ℕ)) → ((taken : List (List ℕ)) (n : ℕ) → map (λ g. g.wave)
          (coded_waves_from fresh taken n ws)
          ≡ ws) → map (λ g. g.wave) (coded_wave fresh n w o ∷ coded_waves_from fresh (also_taken taken o)
          (next_fresh n o) ws) ≡ w ∷ ws
      by_code None again = ap (λ l. w ∷ l) (again taken (n + 1))
      by_code (Some code) again = ap (λ l. w ∷ l) (again (code ∷ taken) n)

  -- ---- what each coded wave has

  -- the own code of a new wave: a word of the file, of this width, with this wave
  pub record IsOwn (w : NewWave) (code : List ℕ) : Type 0 where
    pub known : is_some (first_with_code code s.declared) ≡ true
    pub word : is_word code ≡ true
    pub class : (d : VariableDeclaration) → first_with_code code s.declared ≡ Some d → class_of d ≡ Some w.width
    pub old : w.old ≡ changes_of w.width s.tick (value_at w.width (changes_of_code w.width code s.value_changes))

  pub record IsNewWave (w : NewWave) : Type 0 where
    pub own : (code : List ℕ) → w.own ≡ Some code → IsOwn w code
    pub wave : IsWave w.width w.new
    pub upto : AllUpTo s.tick w.new

  pub record IsCodedWave (g : CodedWave) : Type 0 where
    pub word : is_word g.coded.code ≡ true
    pub fits : (d : VariableDeclaration) → first_with_code g.coded.code s.declared ≡ Some d
        → class_of d ≡ Some g.coded.width
    pub old : g.coded.old ≡ changes_of g.coded.width s.tick (value_at g.coded.width (changes_of_code
        g.coded.width g.coded.code s.value_changes))
    pub width : g.coded.width ≡ g.wave.width
    pub new : g.coded.new ≡ g.wave.new
    pub wave : IsNewWave g.wave

  -- a fresh code is all x in the file
  fresh_old : (width n : ℕ) → All (λ v. IsTrue (is_some (first_with_code v.code s.declared)))
      s.value_changes
      → [] ≡ changes_of width s.tick (value_at width (changes_of_code width (fresh n) s.value_changes))
  unfolding changes_of_code
  fresh_old width n known =
      let nothing : IsWave width [] = record { rise = tt } in
      sym (ap (λ l. changes_of width s.tick (value_at width (map (λ v. record {
        tick = v.tick;
        value = extension width
            v.letters;
      }) l))) (none_of_code s.declared (fresh n) s.value_changes known (are_fresh.unknown n))
      ∙ changes_of-value_at width s.tick [] nothing tt)

  pub are_coded_waves : (taken : List (List ℕ)) (n : ℕ) (ws : List NewWave)
      → All (λ v. IsTrue (is_some (first_with_code v.code s.declared))) s.value_changes → All IsNewWave ws
      → All IsCodedWave (coded_waves_from fresh taken n ws)
  are_coded_waves taken n [] known all = All-nil IsCodedWave
  are_coded_waves taken n (w ∷ ws) known all = by_code (free_code taken w.own) refl
      (λ taken n. are_coded_waves taken n ws known (All-tail IsNewWave w ws all))
    where
      by_code : (o : Option (List ℕ)) → free_code taken w.own ≡ o
          → ((taken : List (List ℕ)) (n : ℕ) → All IsCodedWave (coded_waves_from fresh taken n
          ws))
          → All IsCodedWave (coded_wave fresh n w o ∷ coded_waves_from fresh (also_taken taken o) (next_fresh n o) ws)
      by_code None is again = All-cons IsCodedWave _ _ (record {
        word = are_fresh.words n;
        fits = λ d found. let never : None ≡ Some d = sym (are_fresh.unknown n) ∙ found in
            absurd (cc);
        old = fresh_old w.width n known;
        width = refl;
        new = refl;
        wave = All-head IsNewWave w ws all;
      }) (again taken (n + 1))
      by_code (Some code) is again =
          let wave = All-head IsNewWave w ws all in
          let own = wave.own code (free_is taken w.own code is).0 in
          All-cons IsCodedWave _ _ (record {
            word = own.word;
            fits = own.class;
            old = own.old;
            width = refl;
            new = refl;
            wave = wave;
          }) (again (code ∷ taken) n)
