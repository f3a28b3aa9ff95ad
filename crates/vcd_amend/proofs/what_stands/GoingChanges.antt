-- A change is left out or exchanged only if it may go.
use Rattle.std.proofs.Common.{◌≡◌, ℕ, ◌+◌, Bool, true, false, not, ◌&&◌, ◌||◌, ◌∙◌, All, List, [], ◌∷◌, ◌++◌, map}
use Rattle.std.proofs.Common.{Option, Some, None, refl, sym, ap, inl, inr, subst}
use Rattle.std.specs.Prelude.{bytes_eq, is_some, ◌⊎◌}
use Rattle.std.proofs.lemmas.Bool.{cases_Bool, false≢true, or_left, or_right}
use Rattle.std.proofs.lemmas.Option.{same_Some}
use Rattle.std.proofs.lemmas.List.Elements.{All-nil, All-cons, All-head, All-tail, All-weaker}
use Rattle.vcd_core.specs.Value.{same_letters}
use Rattle.vcd_core.specs.Wave.{value_at}
use Rattle.vcd_core.specs.Word.{is_one_of}
use Rattle.vcd_core.specs.Contents.{SignalContents}
use Rattle.vcd_text.specs.Grammar.{ParseState, VariableDeclaration, is_skipped, kept_variables}
use Rattle.vcd_amend.specs.Amendment.{AmendedCode, first_with_code, amended_code, wave_has_change, changes_stand}
use Rattle.vcd_amend.specs.FreshCodes.{AreFresh}
use Rattle.vcd_amend.specs.GivenCodes.{NewWave, CodedWave, AreSignalsOf, is_unchanged, new_wave_of, held_codes}
use Rattle.vcd_amend.specs.GivenCodes.{waves_of_changed, free_code, coded_wave, coded_waves_from, next_fresh}
use Rattle.vcd_amend.specs.GivenCodes.{also_taken, coded_signals}
use Rattle.vcd_amend.specs.WhatStands.{wave_differs, any_with_code}
use Rattle.vcd_amend.proofs.amended.OneCode.{itself, same_bytes}
use Rattle.vcd_amend.proofs.given_codes.CodedWaves.{free_is}
use Rattle.vcd_amend.proofs.given_codes.Gives.{kept_to, later, declared_to}

-- ---- where a code comes from

module _ (fresh : ℕ → List ℕ) where
  -- an amended code is the own one of its wave, with the wave that it has in the file, or fresh
  abbrev pub IsGiven : CodedWave → Type 0
  IsGiven g = ((g.wave.own ≡ Some g.coded.code) × (g.coded.width ≡ g.wave.width) × (g.coded.old ≡ g.wave.old)
      × (g.coded.new ≡ g.wave.new)) ⊎ ((i : ℕ) × (g.coded.code ≡ fresh i))

  pub all_given : (taken : List (List ℕ)) (n : ℕ) (ws : List NewWave) → All IsGiven (coded_waves_from fresh taken n ws)
  all_given taken n [] = All-nil IsGiven
  all_given taken n (w ∷ ws) = by_code (free_code taken w.own) refl (λ taken n. all_given taken n ws)
    where
      by_code : (o : Option (List ℕ)) → free_code taken w.own ≡ o
          → ((taken : List (List ℕ)) (n : ℕ) → All IsGiven (coded_waves_from fresh taken n ws))
          → All IsGiven (coded_wave fresh n w o ∷ coded_waves_from fresh (also_taken taken o) (next_fresh n o) ws)
      by_code None is again = All-cons IsGiven _ _ (inr (n, refl)) (again taken (n + 1))
      by_code (Some code) is again =
          All-cons IsGiven _ _ (inl ((free_is taken w.own code is).0, refl, refl, refl)) (again (code ∷ taken) n)

  -- the own code of a wave is taken, or is an amended one
  abbrev pub IsInUse : (taken : List (List ℕ)) → List CodedWave → List ℕ → Bool
  IsInUse taken gs code = is_one_of taken code || is_some (amended_code code (map (λ g. g.coded) gs))

  abbrev pub OwnInUse : (taken : List (List ℕ)) → List CodedWave → CodedWave → Type 0
  OwnInUse taken gs g = (own : List ℕ) → g.wave.own ≡ Some own → IsInUse taken gs own ≡ true

  pub all_in_use : (taken : List (List ℕ)) (n : ℕ) (ws : List NewWave)
      → All (OwnInUse taken (coded_waves_from fresh taken n ws)) (coded_waves_from fresh taken n ws)
  all_in_use taken n [] = All-nil (OwnInUse taken [])
  all_in_use taken n (w ∷ ws) = by_code (free_code taken w.own) refl (λ taken n. all_in_use taken n ws)
    where
      rest_of : Option (List ℕ) → List CodedWave
      rest_of o = coded_waves_from fresh (also_taken taken o) (next_fresh n o) ws

      free_or_taken : (c : List ℕ) → free_code taken (Some c) ≡ None → is_one_of taken c ≡ true
      free_or_taken c is = elim (cases_Bool (is_one_of taken c)) [
        | inl there ↦ there
        | inr free ↦ let never : Some c ≡ None = rw free at is in absurd (cc)
      ]

      by_code : (o : Option (List ℕ)) → free_code taken w.own ≡ o
          → ((taken : List (List ℕ)) (n : ℕ)
          → All (OwnInUse taken (coded_waves_from fresh taken n ws)) (coded_waves_from fresh taken n ws))
          → All (OwnInUse taken (coded_wave fresh n w o ∷ rest_of o)) (coded_wave fresh n w o ∷ rest_of o)
      by_code None is again =
          let gs : List CodedWave = rest_of None in
          All-cons (OwnInUse taken (coded_wave fresh n w None ∷ gs)) _ gs (λ own has. or_left _ _ (free_or_taken own (ap
          (free_code taken) (sym has) ∙ is))) (All-weaker (OwnInUse taken gs) (OwnInUse taken (coded_wave fresh n w None
          ∷ gs)) (λ g used own has. in_longer own (used own has)) gs (again taken (n + 1)))
        where
          by_fresh : (own : List ℕ) (b : Bool) → bytes_eq own (fresh n) ≡ b
              → is_some (amended_code own (map (λ g. g.coded) (rest_of None))) ≡ true
              → is_some (amended_code own (map (λ g. g.coded) (coded_wave fresh n w None ∷ rest_of None))) ≡ true
          by_fresh own true here used = rw here refl
          by_fresh own false beside used = rw beside used

          in_longer : (own : List ℕ) → IsInUse taken (rest_of None) own ≡ true
              → IsInUse taken (coded_wave fresh n w None ∷ rest_of None) own ≡ true
          in_longer own used = elim (cases_Bool (is_one_of taken own)) [
            | inl there ↦ or_left _ _ there
            | inr free ↦ or_right _ _ (by_fresh own (bytes_eq own (fresh n)) refl (rw free at used))
          ]
      by_code (Some code) is again =
          let gs : List CodedWave = rest_of (Some code) in
          All-cons (OwnInUse taken (coded_wave fresh n w (Some code) ∷ gs)) _ gs (λ own has.
          let same : own ≡ code = same_Some own code (sym has ∙ (free_is taken w.own code is).0) in
          or_right _ _ (first_own own (ap (λ k. bytes_eq k code) same ∙ itself code))) (All-weaker
          (OwnInUse (code ∷ taken) gs) (OwnInUse taken (coded_wave fresh n w (Some code) ∷ gs)) (λ g used own has.
          in_longer own (used own has)) gs (again (code ∷ taken) n))
        where
          first_own : (own : List ℕ) → bytes_eq own code ≡ true
              → is_some (amended_code own (map (λ g. g.coded) (coded_wave fresh n w (Some code) ∷ rest_of (Some code))))
              ≡ true
          first_own own here = rw here refl

          past : (own : List ℕ) → bytes_eq own code ≡ false
              → is_some (amended_code own (map (λ g. g.coded) (rest_of (Some code)))) ≡ true
              → is_some (amended_code own (map (λ g. g.coded) (coded_wave fresh n w (Some code) ∷ rest_of (Some code))))
              ≡ true
          past own beside used = rw beside used

          in_longer : (own : List ℕ) → IsInUse (code ∷ taken) (rest_of (Some code)) own ≡ true
              → IsInUse taken (coded_wave fresh n w (Some code) ∷ rest_of (Some code)) own ≡ true
          in_longer own used = elim (cases_Bool (bytes_eq own code)) [
            | inl here ↦ or_right _ _ (first_own own here)
            | inr beside ↦ elim (cases_Bool (is_one_of taken own)) [
              | inl there ↦ or_left _ _ there
              | inr free ↦ or_right _ _ (past own beside (rw (beside, free) at used))
            ]
          ]

-- ---- ticks at which a wave differs

-- whether the changes of a wave at a tick stand
abbrev pub wave_stands : NewWave → ℕ → Bool
wave_stands w t = same_letters (value_at w.width w.old t) (value_at w.width w.new t)
    && (wave_has_change w.new t || not (wave_has_change w.old t))

-- where they do not, a change of its own code may go
abbrev pub GoesOwn : ParseState → List VariableDeclaration → List (Option SignalContents) → NewWave → Type 0
GoesOwn s ds ns w = (code : List ℕ) → w.own ≡ Some code → (t : ℕ) → wave_stands w t ≡ false
    → any_with_code (wave_differs s t) code ds ns ≡ true

by_tests : (same new old : Bool) → (same && (new || not old)) ≡ false → (not same || (old && not new)) ≡ true
by_tests false new old is = refl
by_tests true true old is = absurd (false≢true (sym is))
by_tests true false true is = refl
by_tests true false false is = absurd (false≢true (sym is))

module _ (s : ParseState) where
  pub changed_go : (ds : List VariableDeclaration) (ns : List (Option SignalContents))
      → All (GoesOwn s ds ns) (waves_of_changed s ds ns)
  changed_go [] ns = All-nil (GoesOwn s [] ns)
  changed_go (d ∷ ds) [] = All-nil (GoesOwn s (d ∷ ds) [])
  changed_go (d ∷ ds) (None ∷ ns) = All-weaker (GoesOwn s ds ns) (GoesOwn s (d ∷ ds) (None ∷ ns))
      (λ w goes code own t is. or_right _ _ (goes code own t is)) _ (changed_go ds ns)
  changed_go (d ∷ ds) (Some n ∷ ns) =
      let rest = All-weaker (GoesOwn s ds ns) (GoesOwn s (d ∷ ds) (Some n ∷ ns))
      (λ w goes code own t is. or_right _ _ (goes code own t is)) _ (changed_go ds ns) in
      elim (cases_Bool (is_unchanged s d n)) [
        | inl same ↦ rw same rest
        | inr differs ↦ rw differs (All-cons (GoesOwn s (d ∷ ds) (Some n ∷ ns)) (new_wave_of s d n) _ here rest)
      ]
    where
      here : GoesOwn s (d ∷ ds) (Some n ∷ ns) (new_wave_of s d n)
      here code own t is =
          let same : d.code ≡ code = same_Some d.code code own in
          let may : wave_differs s t d (Some n) ≡ true = by_tests _ _ _ is in
          let it : (bytes_eq code d.code && wave_differs s t d (Some n)) ≡ true = rw (ap (bytes_eq code) same
          ∙ itself code) may in
          or_left _ _ it

  -- ---- an amended code

  module _ (fresh : ℕ → List ℕ) (are_fresh : AreFresh s fresh) (ds : List VariableDeclaration)
      (ns : List (Option SignalContents)) where
    abbrev pub GoesCode : AmendedCode → Type 0
    GoesCode c = is_some (first_with_code c.code s.declared) ≡ true → (t : ℕ) → changes_stand c t ≡ false
        → any_with_code (wave_differs s t) c.code ds ns ≡ true

    pub one_goes : (g : CodedWave) → IsGiven fresh g → GoesOwn s ds ns g.wave → GoesCode g.coded
    one_goes g (inl (own, width, old, new)) goes known t falls = goes g.coded.code own t (sym
        (ap₃ (λ w x y. same_letters (value_at w x t) (value_at w y t) && (wave_has_change y t || not (wave_has_change x
        t))) width old new) ∙ falls)
      where
        ap₃ : {A B C D : Type 0} (f : A → B → C → D) {a b : A} {c d : B} {e h : C} → a ≡ b → c ≡ d → e ≡ h
            → f a c e ≡ f b d h
        ap₃ f p q r = cc
    one_goes g (inr (i, is)) goes known t falls =
        let never : false ≡ true = sym (ap (λ k. is_some (first_with_code k s.declared)) is ∙ ap is_some
        (are_fresh.unknown i)) ∙ known in
        absurd (false≢true never)

  -- ---- a code that is gone

  module _ (gs : List CodedWave) (code : List ℕ) where
    abbrev IsLeft : List VariableDeclaration → Bool
    IsLeft ds = is_some (first_with_code code ds)

    -- a held code is used
    pub held_is_left : (ds : List VariableDeclaration) (ns : List (Option SignalContents))
        → AreSignalsOf s (kept_variables ds) ns → is_one_of (held_codes s (kept_variables ds) ns) code ≡ true
        → IsLeft (declared_to ds (coded_signals s gs (kept_variables ds) ns)) ≡ true
    held_is_left [] ns are held = absurd (false≢true held)
    held_is_left (d ∷ ds) ns are held = elim (cases_Bool (is_skipped d)) [
      | inl skipped ↦
          let none : kept_variables (d ∷ ds) ≡ kept_variables ds = rw skipped refl in
          rw skipped (past d _ (held_is_left ds ns (subst (λ l. AreSignalsOf s l ns) none are) (subst (λ l. is_one_of
          (held_codes s l ns) code ≡ true) none held)))
      | inr kept ↦
          let one : kept_variables (d ∷ ds) ≡ d ∷ kept_variables ds = rw kept refl in
          rw kept (by_left ns (subst (λ l. AreSignalsOf s l ns) one are) (subst (λ l. is_one_of (held_codes s l ns) code
          ≡ true) one held) (held_is_left ds))
    ]
      where
        past : (e : VariableDeclaration) (es : List VariableDeclaration) → IsLeft es ≡ true → IsLeft (e ∷ es) ≡ true
        past e es left = elim (cases_Bool (bytes_eq code e.code)) [
          | inl here ↦ rw here refl
          | inr beside ↦ rw beside left
        ]

        by_left : (ns : List (Option SignalContents)) → AreSignalsOf s (d ∷ kept_variables ds) ns
            → is_one_of (held_codes s (d ∷ kept_variables ds) ns) code ≡ true
            → ((ns : List (Option SignalContents)) → AreSignalsOf s (kept_variables ds) ns
            → is_one_of (held_codes s (kept_variables ds) ns) code ≡ true
            → IsLeft (declared_to ds (coded_signals s gs (kept_variables ds) ns)) ≡ true)
            → IsLeft (kept_to false d (coded_signals s gs (d ∷ kept_variables ds) ns)
            ++ declared_to ds (later false (coded_signals s gs (d ∷ kept_variables ds) ns))) ≡ true
        by_left [] are held again = absurd are
        by_left (None ∷ ns) are held again = again ns are held
        by_left (Some n ∷ ns) (here, are) held again = elim (cases_Bool (is_unchanged s d n)) [
          | inl same ↦
              let there : (bytes_eq code d.code || is_one_of (held_codes s (kept_variables ds) ns) code) ≡ true =
              rw same at held in
              elim (cases_Bool (bytes_eq code d.code)) [
                | inl own ↦ rw same (rw own refl)
                | inr beside ↦ past _ _ (again ns are (rw beside at there))
              ]
          | inr differs ↦ past _ _ (again ns are (rw differs at held))
        ]

    -- if a code is not left, and is the own one of no changed variable, nothing is left of its variables
    abbrev pub IsNotOwn : NewWave → Type 0
    IsNotOwn w = w.own ≡ Some code → ⊥

    not_later : (e : VariableDeclaration) (es : List VariableDeclaration) → IsLeft (e ∷ es) ≡ false
        → IsLeft es ≡ false
    not_later e es gone = elim (cases_Bool (bytes_eq code e.code)) [
      | inl here ↦ let never : true ≡ false = rw here at gone in absurd (cc)
      | inr beside ↦ rw beside at gone
    ]

    abbrev NothingLeft : (known : Type 0) → List VariableDeclaration → List (Option SignalContents) → Type 0
    NothingLeft known ks ns = (known → any_with_code (λ d o. not (is_some o)) code ks ns ≡ true)
        × (any_with_code (λ d o. is_some o) code ks ns ≡ false)

    pub nothing_left : (ds : List VariableDeclaration) (ns : List (Option SignalContents))
        → AreSignalsOf s (kept_variables ds) ns → All IsNotOwn (waves_of_changed s (kept_variables ds) ns)
        → IsLeft (declared_to ds (coded_signals s gs (kept_variables ds) ns)) ≡ false
        → NothingLeft (IsLeft ds ≡ true) (kept_variables ds) ns
    nothing_left [] ns are unowned gone = ((λ known. absurd (false≢true known)), refl)
    nothing_left (d ∷ ds) ns are unowned gone =
        by_kind (is_skipped d) refl (λ ns are unowned gone. nothing_left ds ns are unowned gone)
      where
        by_left : (ns : List (Option SignalContents)) → AreSignalsOf s (d ∷ kept_variables ds) ns
            → All IsNotOwn (waves_of_changed s (d ∷ kept_variables ds) ns)
            → IsLeft (kept_to false d (coded_signals s gs (d ∷ kept_variables ds) ns)
            ++ declared_to ds (later false (coded_signals s gs (d ∷ kept_variables ds) ns))) ≡ false
            → ((ns : List (Option SignalContents)) → AreSignalsOf s (kept_variables ds) ns
            → All IsNotOwn (waves_of_changed s (kept_variables ds) ns)
            → IsLeft (declared_to ds (coded_signals s gs (kept_variables ds) ns)) ≡ false
            → NothingLeft (IsLeft ds ≡ true) (kept_variables ds) ns)
            → NothingLeft (IsLeft (d ∷ ds) ≡ true) (d ∷ kept_variables ds) ns
        by_left [] are unowned gone again = absurd are
        by_left (None ∷ ns) are unowned gone again =
            let rest = again ns are unowned gone in
            elim (cases_Bool (bytes_eq code d.code)) [
              | inl own ↦ rw own ((λ known. refl), rest.1)
              | inr beside ↦ rw beside (rest.0, rest.1)
            ]
        by_left (Some n ∷ ns) (here, are) unowned gone again = elim (cases_Bool (bytes_eq code d.code)) [
          | inl own ↦ elim (cases_Bool (is_unchanged s d n)) [
            | inl same ↦ let never : true ≡ false = rw own at (rw same at gone) in absurd (cc)
            | inr differs ↦
                let some : All IsNotOwn (new_wave_of s d n ∷ waves_of_changed s (kept_variables ds) ns) =
                rw differs at unowned in
                absurd (All-head IsNotOwn _ _ some (ap Some (sym (same_bytes code d.code own))))
          ]
          | inr beside ↦
              let rest = again ns are (fewer (is_unchanged s d n) refl) (not_later _ _ gone) in
              rw beside (rest.0, rest.1)
        ]
          where
            fewer : (b : Bool) → is_unchanged s d n ≡ b → All IsNotOwn (waves_of_changed s (kept_variables ds) ns)
            fewer true same = rw same at unowned
            fewer false differs = All-tail IsNotOwn (new_wave_of s d n) _ (rw differs at unowned)

        by_kind : (skipped : Bool) → is_skipped d ≡ skipped → ((ns : List (Option SignalContents))
            → AreSignalsOf s (kept_variables ds) ns → All IsNotOwn (waves_of_changed s (kept_variables ds) ns)
            → IsLeft (declared_to ds (coded_signals s gs (kept_variables ds) ns)) ≡ false
            → NothingLeft (IsLeft ds ≡ true) (kept_variables ds) ns)
            → NothingLeft (IsLeft (d ∷ ds) ≡ true) (kept_variables (d ∷ ds)) ns
        by_kind true skipped again =
            let none : kept_variables (d ∷ ds) ≡ kept_variables ds = rw skipped refl in
            let gone_here : IsLeft (d ∷ declared_to ds (coded_signals s gs (kept_variables ds) ns)) ≡ false =
            rw skipped at gone in
            let beside : bytes_eq code d.code ≡ false = by_code (bytes_eq code d.code) refl gone_here in
            let rest = again ns (subst (λ l. AreSignalsOf s l ns) none are) (subst (λ l. All IsNotOwn (waves_of_changed
            s l ns)) none unowned) (not_later d _ gone_here) in
            subst (λ l. NothingLeft (IsLeft (d ∷ ds) ≡ true) l ns) (sym none)
            ((λ known. rest.0 (rw beside at known)), rest.1)
          where
            by_code : (b : Bool) → bytes_eq code d.code ≡ b
                → IsLeft (d ∷ declared_to ds (coded_signals s gs (kept_variables ds) ns)) ≡ false
                → bytes_eq code d.code ≡ false
            by_code true own gone_here = let never : true ≡ false = rw own at gone_here in absurd (cc)
            by_code false beside gone_here = beside
        by_kind false kept again =
            let one : kept_variables (d ∷ ds) ≡ d ∷ kept_variables ds = rw kept refl in
            let gone_here = rw kept at gone in
            subst (λ l. NothingLeft (IsLeft (d ∷ ds) ≡ true) l ns) (sym one) (by_left ns
            (subst (λ l. AreSignalsOf s l ns) one
            are)
            (subst (λ l. All IsNotOwn (waves_of_changed s l ns)) one unowned) gone_here again)
