-- What is untouched stands, and the rest may come.
use Rattle.std.proofs.Common.{◌≡◌, ℕ, ◌+◌, ◌<◌, ◌≤◌, ◌^◌, Bool, true, false, not, ◌&&◌, ◌∙◌, if◌then◌else◌, All, List}
use Rattle.std.proofs.Common.{[], ◌∷◌}
use Rattle.std.proofs.Common.{◌++◌, map, length, drop, Option, Some, None, refl, sym, ap, arith, inl, inr, subst}
use Rattle.std.proofs.Common.{append_assoc, decimal}
use Rattle.std.specs.Prelude.{bytes_eq, is_some, find, count_by}
use Rattle.std.specs.List.{list_any}
use Rattle.std.specs.Cmp.Lexicographic.{pointwise_decides}
use Rattle.std.proofs.lemmas.Bool.{cases_Bool, false≢true, and_parts, and_from, or_left, or_right, eq-eqb}
use Rattle.std.proofs.lemmas.List.Elements.{All-nil, All-cons, All-head, All-tail, All-weaker, All-append, All-map}
use Rattle.std.proofs.lemmas.List.Folds.{list_any-append}
use Rattle.std.proofs.lemmas.Slice.Eq.{bytes_eq-Decides}
use Rattle.vcd_core.specs.declared.value.TheConstants.{WIDTH_LIMIT}
use Rattle.vcd_core.specs.Contents.{SignalContents}
use Rattle.vcd_core.specs.Sound.{IsSoundSignal}
use Rattle.vcd_core.specs.Word.{is_one_of}
use Rattle.vcd_text.specs.declared.fault.Fault.TheVariants.{UnknownCode}
use Rattle.vcd_text.specs.Items.{Item, entry, timescale, scope, upscope, variable, end_definitions, stamp, scalar}
use Rattle.vcd_text.specs.Items.{vector, real_or_string, dump_word, other}
use Rattle.vcd_text.specs.Grammar.{ParseState, VariableDeclaration, kept_variables, is_skipped, AllowsAll, Allows}
use Rattle.vcd_text.specs.Grammar.{initial_state, state_after, state_after_item, variable_of}
use Rattle.vcd_text.specs.Meaning.{FileMeans, meaning}
use Rattle.vcd_text.specs.Text.{value_item}
use Rattle.vcd_copy.specs.Pieces.{Piece, IsCut, state_of_pieces}
use Rattle.vcd_core.specs.declared.bit.Bit.{Bit}
use Rattle.vcd_text.proofs.shared.ItemTests.{passed}
use Rattle.vcd_text.proofs.part.FewSignals.{same_limit}
use Rattle.vcd_text.proofs.read_back.Decimals.{number_of-decimal}
use Rattle.vcd_amend.specs.Amendment.{AmendedCode, Amendment, first_with_code, amended_code, is_used, changes_stand}
use Rattle.vcd_amend.specs.Amendment.{amended_variables, needs_change, new_value}
use Rattle.vcd_amend.specs.AmendedItems.{ItemFate, is_left_out, stands, value_fate, item_fate, exchange_for, due_items}
use Rattle.vcd_amend.specs.AmendedItems.{file_has_change}
use Rattle.vcd_amend.specs.AmendedMeaning.{FitsFile, FitsAmendedCode}
use Rattle.vcd_amend.specs.CodedAmendment.{derived_variable}
use Rattle.vcd_amend.specs.FreshCodes.{fresh_code}
use Rattle.vcd_amend.specs.GivenCodes.{NewWave, CodedWave, AreSignalsOf, IsFileState, amendment_for, coded_waves}
use Rattle.vcd_amend.specs.GivenCodes.{held_codes, new_waves, waves_of_changed, derived_new_wave, same_new_wave}
use Rattle.vcd_amend.specs.GivenCodes.{coded_signals, coded_derived, signals_left, changed_waves}
use Rattle.vcd_amend.specs.WhatStands.{may_go, any_with_code, wave_differs, is_gone, change_may_go, declares}
use Rattle.vcd_amend.specs.WhatStands.{may_be_put_in, may_become, UntouchedItemsStand}
use Rattle.vcd_copy.specs.Ticks.{tick_after_item}
use Rattle.vcd_amend.proofs.amended.OneCode.{itself, same_bytes}
use Rattle.vcd_amend.proofs.shared.Lists.{found_has, found_is, is_there, each_of_both, some_first, all_of_map}
use Rattle.vcd_amend.proofs.amended.Fitting.{found_apart}
use Rattle.vcd_amend.proofs.amended.Whole.{declared_grows, body_items}
use Rattle.vcd_amend.proofs.amended.OtherWords.{items_of}
use Rattle.vcd_amend.proofs.given_codes.CodedWaves.{waves_are}
use Rattle.vcd_amend.proofs.given_codes.File.{state_of_file, other_capture_of_pieces}
use Rattle.vcd_amend.proofs.given_codes.Fits.{all_fit, met, variables_are}
use Rattle.vcd_amend.proofs.given_codes.FreshCodes.{fresh_codes_are_fresh}
use Rattle.vcd_amend.proofs.given_codes.Gives.{amendment_fits, declared_to}
use Rattle.vcd_amend.proofs.given_codes.NewWaves.{firsts_have, new_wave_parts}
use Rattle.vcd_amend.proofs.what_stands.ComingAndGoing.{ValuesCome, DeclarationComes, due_come, inserted_come}
use Rattle.vcd_amend.proofs.what_stands.ComingAndGoing.{declared_may, MayHave, pieces_become}
use Rattle.vcd_amend.proofs.amended.WholeText.{made, made_is_cut}
use Rattle.vcd_amend.proofs.what_stands.KeptWaves.{value_comes}
use Rattle.vcd_amend.proofs.what_stands.GoingChanges.{IsGiven, all_given, OwnInUse, IsInUse, all_in_use, GoesOwn}
use Rattle.vcd_amend.proofs.what_stands.GoingChanges.{changed_go, GoesCode, one_goes, held_is_left, nothing_left}
use Rattle.vcd_amend.proofs.what_stands.GoingChanges.{IsNotOwn}

-- ---- derived signals

-- a variable that declares one of these signals
abbrev DeclaresOne : List SignalContents → VariableDeclaration → Type 0
DeclaresOne signals d = list_any (declares (d.kind ∷ decimal d.size ∷ d.code ∷ d.words)) signals ≡ true

-- the declaration of a derived signal declares it
module _ (tick : ℕ) where
  one_declares : (n : SignalContents) (code : List ℕ) → IsSoundSignal tick n
      → declares (n.kind ∷ decimal n.width ∷ code ∷ n.words) n ≡ true
  one_declares n code sound =
      let most : n.width ≤ WIDTH_LIMIT = sound.most in
      let small : n.width < 2 ^ 64 = omega arith in
      and_from _ _ (and_from _ _ (itself n.kind) (eq-eqb _ _ (number_of-decimal n.width small)))
      ((pointwise_decides bytes_eq-Decides n.words n.words).1 refl)

  derived_declare : (hs : List CodedWave) (before ns : List SignalContents) → All (IsSoundSignal tick) ns
      → All (DeclaresOne (before ++ ns)) (map derived_variable (coded_derived hs ns))
  derived_declare [] before ns sound = All-nil (DeclaresOne (before ++ ns))
  derived_declare (h ∷ hs) before [] sound = All-nil (DeclaresOne (before ++ []))
  derived_declare (h ∷ hs) before (n ∷ ns) sound = All-cons (DeclaresOne (before ++ n ∷ ns)) _ _ (list_any-append
      (declares (n.kind ∷ decimal n.width ∷ h.coded.code ∷ n.words)) before (n ∷ ns) ∙ or_right _ _ (or_left _ _
      (one_declares n h.coded.code (All-head (IsSoundSignal tick) n ns sound)))) (subst (λ l. All (DeclaresOne l) (map
      derived_variable (coded_derived hs ns))) (append_assoc before (n ∷ []) ns) (derived_declare hs (before ++ n ∷ [])
      ns (All-tail (IsSoundSignal tick) n ns sound)))

module _ (s : ParseState) (file : IsFileState s) (remaining : List (Option SignalContents))
    (derived : List SignalContents) (are : AreSignalsOf s (kept_variables s.declared) remaining)
    (sound : All (IsSoundSignal s.tick) derived) (few : length (signals_left remaining) + length derived ≤ s.limit)
  where
    abbrev a : Amendment
    a = amendment_for s remaining derived

    abbrev ks : List VariableDeclaration
    ks = kept_variables s.declared

    abbrev held : List (List ℕ)
    held = held_codes s ks remaining

    abbrev gs : List CodedWave
    gs = coded_waves s remaining derived

    abbrev cs : List AmendedCode
    cs = a.codes

    abbrev signals : List SignalContents
    signals = signals_left remaining ++ derived

    abbrev go : ParseState → Item → Bool
    go = may_go s remaining

    abbrev come : Item → Bool
    come = may_be_put_in s remaining signals

    fit : FitsFile a s
    fit = amendment_fits s _ _ _ (all_fit (fresh_code s) s (fresh_codes_are_fresh s) file remaining derived are sound
        few)

    abbrev Found : AmendedCode → Type 0
    Found c = amended_code c.code cs ≡ Some c

    values : All (ValuesCome come) cs
    values = All-weaker Found (ValuesCome come) (λ c is v. value_comes s file remaining derived are sound few signals c
        v
        is) cs (found_apart cs fit.apart)

    added : All (DeclarationComes come) a.added
    added = derived_declare s.tick _ (signals_left remaining) derived sound

    -- ---- changes

    abbrev Own : NewWave → Type 0
    Own = GoesOwn s ks remaining

    derived_go : (ns : List SignalContents) → All Own (map derived_new_wave ns)
    derived_go [] = All-nil Own
    derived_go (n ∷ ns) = All-cons Own (derived_new_wave n) _ (λ code own t is. let never : None ≡ Some code = own in
        absurd (cc)) (derived_go ns)

    waves_go : All Own (new_waves s remaining derived)
    waves_go = All-append Own _ _ (firsts_have Own [] (waves_of_changed s ks remaining) (changed_go s ks remaining))
        (derived_go derived)

    codes_go : All (GoesCode s (fresh_code s) (fresh_codes_are_fresh s) ks remaining) cs
    codes_go = All-map (GoesCode s (fresh_code s) (fresh_codes_are_fresh s) ks remaining) (λ (g : CodedWave). g.coded)
        gs
        (each_of_both (IsGiven (fresh_code s)) (λ (g : CodedWave). Own g.wave) (λ (g : CodedWave). GoesCode s
        (fresh_code
        s) (fresh_codes_are_fresh s) ks remaining g.coded) (λ g given goes. one_goes s (fresh_code s)
        (fresh_codes_are_fresh s) ks remaining g given goes) gs (all_given (fresh_code s) held 0 (new_waves s remaining
        derived)) (all_of_map Own (λ (g : CodedWave). g.wave) gs (subst (All Own) (sym (waves_are (fresh_code s) s
        (fresh_codes_are_fresh s) held 0 (new_waves s remaining derived))) waves_go)))

    module _ (code : List ℕ) (known : is_some (first_with_code code s.declared) ≡ true) (t : ℕ) where
      differing_goes : (c : AmendedCode) → amended_code code cs ≡ Some c → changes_stand c t ≡ false
          → any_with_code (wave_differs s t) code ks remaining ≡ true
      differing_goes c is falls =
          let same : code ≡ c.code = same_bytes code c.code (found_is (λ (c : AmendedCode). bytes_eq code c.code) cs c
          is)
          in
          let goes = found_has (GoesCode s (fresh_code s) (fresh_codes_are_fresh s) ks remaining) (λ (c : AmendedCode).
          bytes_eq code c.code) cs c codes_go is in
          subst (λ k. any_with_code (wave_differs s t) k ks remaining ≡ true) (sym same) (goes (ap (λ k. is_some
          (first_with_code k s.declared)) (sym same) ∙ known) t falls)

      module _ (gone : is_used a s code ≡ false) where
        abbrev left : List VariableDeclaration
        left = declared_to s.declared (coded_signals s gs ks remaining)

        no_variable : is_some (first_with_code code left) ≡ false
        no_variable = elim (cases_Bool (is_some (first_with_code code left))) [
          | inl there ↦
              let used : is_used a s code ≡ true = ap (λ l. is_some (first_with_code code l))
              (variables_are (fresh_code s)
              s (fresh_codes_are_fresh s) file remaining derived are sound) ∙ some_first (λ (d : VariableDeclaration).
              bytes_eq code d.code) left _ there in
              absurd (false≢true (sym gone ∙ used))
          | inr none ↦ none
        ]

        not_in_use : IsInUse (fresh_code s) held gs code ≡ true → ⊥
        not_in_use used = elim (cases_Bool (is_one_of held code)) [
          | inl there ↦ false≢true (sym no_variable ∙ held_is_left s gs code s.declared remaining are there)
          | inr free ↦
              let it = is_there (amended_code code cs) (rw free at used) in
              let same : code ≡ (it.0).code = same_bytes code (it.0).code (found_is (λ (c : AmendedCode). bytes_eq code
              c.code) cs it.0 it.1) in
              let fits = found_has (FitsAmendedCode a s) (λ (c : AmendedCode). bytes_eq code c.code) cs it.0 fit.codes
              it.1
              in
              false≢true (sym gone ∙ ap (is_used a s) same ∙ fits.used)
        ]

        unowned : All (IsNotOwn s gs code) (waves_of_changed s ks remaining)
        unowned = All-weaker (λ w. is_some (find (λ (g : CodedWave). same_new_wave w g.wave) gs) ≡ true) (IsNotOwn s gs
            code) (λ w meets own.
            let it = is_there (find (λ (g : CodedWave). same_new_wave w g.wave) gs) meets in
            let parts = new_wave_parts w (it.0).wave (found_is (λ (g : CodedWave). same_new_wave w g.wave) gs it.0 it.1)
            in
            let in_use = found_has (OwnInUse (fresh_code s) held gs) (λ (g : CodedWave). same_new_wave w g.wave) gs it.0
            (all_in_use (fresh_code s) held 0 (new_waves s remaining derived)) it.1 in
            not_in_use (in_use code (sym parts.0 ∙ own))) (waves_of_changed s ks remaining) (met (fresh_code s) s
            (fresh_codes_are_fresh s) file remaining derived are sound)

        unused_goes : is_gone s remaining code ≡ true
        unused_goes =
            let nothing = nothing_left s gs code s.declared remaining are unowned no_variable in
            and_from _ _ (nothing.0 known) (ap not nothing.1)

    -- ---- what becomes of a change

    abbrev May : ParseState → Item → ItemFate → Type 0
    May = MayHave go come

    value_keeps_tick : (code : List ℕ) (v : List Bit) (t : ℕ) → tick_after_item t (value_item code v) ≡ t
    value_keeps_tick code [] t = refl
    value_keeps_tick code (b ∷ []) t = refl
    value_keeps_tick code (b ∷ e ∷ v) t = refl

    value_may : (now : ParseState) (i : Item) (code : List ℕ) → is_some (first_with_code code s.declared) ≡ true
        → (change_may_go s remaining now.tick code ≡ true → go now i ≡ true)
        → (o : Option AmendedCode) → amended_code code cs ≡ o → May now i (value_fate now o)
    value_may now i code known goes None is = tt
    value_may now i code known goes (Some c) is = by_test (changes_stand c now.tick) refl
      where
        by_due : (b : Bool) → go now i ≡ true
            → May now i (exchange_for (if b then value_item c.code (new_value c now.tick) ∷ [] else []))
        by_due true may = (
          may,
          (and_parts (come (value_item c.code (new_value c now.tick))) true (found_has (ValuesCome come)
              (λ (c : AmendedCode). bytes_eq code c.code) cs c values is (new_value c now.tick))).0,
          value_keeps_tick c.code (new_value c now.tick),
        )
        by_due false may = may

        by_test : (b : Bool) → changes_stand c now.tick ≡ b
            → May now i (if b then stands else exchange_for (due_items now now.tick c))
        by_test true agrees = tt
        by_test false falls = by_due (needs_change c now.tick && not (file_has_change now c.code now.tick))
            (goes (or_left _ _ (differing_goes code known now.tick c is falls)))

    used_or_gone : (now : ParseState) (i : Item) (code : List ℕ) (o : ItemFate)
        → is_some (first_with_code code s.declared) ≡ true
        → (is_gone s remaining code ≡ true → go now i ≡ true) → May now i o
        → May now i (if is_used a s code then o else is_left_out)
    used_or_gone now i code o known goes may = by_test (is_used a s code) refl
      where
        by_test : (b : Bool) → is_used a s code ≡ b → May now i (if b then o else is_left_out)
        by_test true used = may
        by_test false gone = goes (unused_goes code known now.tick gone)

    -- ---- an item

    module _ (now : ParseState) (is : List Item) where
      -- among the changes all variables are declared
      all_declared : (i : Item) → now.in_body ≡ true → AllowsAll now (i ∷ is) → state_after now (i ∷ is) ≡ s
          → s.declared ≡ now.declared
      all_declared i in_body allows whole = ap (λ (u : ParseState). u.declared) (sym whole)
          ∙ body_items now (i ∷ is) in_body allows

      -- a change, whose code is known
      change_may : (i : Item) (code : List ℕ) (o : List VariableDeclaration → ItemFate) → now.in_body ≡ true
          → AllowsAll now (i ∷ is) → state_after now (i ∷ is) ≡ s → is_some (variable_of now code) ≡ true
          → (is_some (first_with_code code s.declared) ≡ true → May now i (o s.declared)) → May now i (o now.declared)
      change_may i code o in_body allows whole known may =
          let same = all_declared i in_body allows whole in
          subst (λ l. May now i (o l)) same (may (ap (λ l. is_some (first_with_code code l)) same ∙ known))

    digits_known : (now : ParseState) (first : ℕ) (digits code : List ℕ) → Allows now (vector first digits code)
        → is_some (variable_of now code) ≡ true
    digits_known now first digits code allows = by_answer (variable_of now code) refl
      where
        by_answer : (o : Option VariableDeclaration) → variable_of now code ≡ o → is_some o ≡ true
        by_answer None is = absurd (grind (arith, allows.1))
        by_answer (Some d) is = refl

    -- the variables of the amended file, if these are those of the file
    abbrev amended_of : List VariableDeclaration → List VariableDeclaration
    amended_of l = amended_variables a l

    goes : (now : ParseState) (i : Item) (is : List Item) → AllowsAll now (i ∷ is) → state_after now (i ∷ is) ≡ s
        → May now i (item_fate a now i)
    goes now (entry kind words) is allows whole = tt
    goes now (timescale words) is allows whole = tt
    goes now (scope kind words) is allows whole = tt
    goes now upscope is allows whole = tt
    goes now (variable []) is allows whole = tt
    goes now (variable (kind ∷ [])) is allows whole = tt
    goes now (variable (kind ∷ size ∷ [])) is allows whole = tt
    goes now (variable (kind ∷ size ∷ code ∷ [])) is allows whole = tt
    goes now (variable (kind ∷ size ∷ code ∷ name ∷ names)) is allows whole =
        let more = declared_grows (state_after_item now (variable (kind ∷ size ∷ code ∷ name ∷ names))) is in
        declared_may s gs remaining derived (coded_derived (drop (length (changed_waves s remaining)) gs) derived) cs
        are
        now kind size code name names more.0 (ap (λ (u : ParseState). u.declared) (sym whole) ∙ more.1 ∙ append_assoc
        now.declared _ more.0)
    goes now end_definitions is allows whole = tt
    goes now (stamp digits) is allows whole = tt
    goes now (scalar digit code) is allows whole = change_may now is (scalar digit code) code (λ l. if is_some
        (first_with_code code (amended_of l)) then value_fate now (amended_code code cs) else is_left_out)
        (and_parts now.in_body _ (allows.0).0).0 allows whole (passed UnknownCode _ [] (allows.0).1).0 (λ known.
        used_or_gone now (scalar digit code) code _ known (λ h. or_right _ _ h) (value_may now (scalar digit code) code
        known
        (λ h. h)
        (amended_code code cs) refl))
    goes now (vector first digits code) is allows whole = change_may now is (vector first digits code) code (λ l. if
        is_some (first_with_code code (amended_of l)) then value_fate now (amended_code code cs) else is_left_out)
        (and_parts now.in_body _ (allows.0).0).0 allows whole (digits_known now first digits code allows.0) (λ known.
        used_or_gone now (vector first digits code) code _ known (λ h. or_right _ _ h) (value_may now
        (vector first digits code) code
        known (λ h. h) (amended_code code cs) refl))
    goes now (real_or_string first text code) is allows whole = change_may now is (real_or_string first text code) code
        (λ
        l. if is_some (first_with_code code (amended_of l)) then stands else is_left_out) (and_parts now.in_body _
        (allows.0).0).0 allows whole (passed UnknownCode _ [] (allows.0).1).0 (λ known. used_or_gone now (real_or_string
        first text code) code stands known (λ h. h) tt)
    goes now (dump_word word) is allows whole = tt
    goes now (other word words) is allows whole = tt

    -- nothing goes that is a stamp
    goes_within : (now : ParseState) (i : Item) → go now i ≡ true → (state_after_item now i).tick ≡ now.tick
    goes_within now (entry kind words) may = refl
    goes_within now (timescale words) may = refl
    goes_within now (scope kind words) may = refl
    goes_within now upscope may = refl
    goes_within now (variable words) may = refl
    goes_within now end_definitions may = refl
    goes_within now (stamp digits) may = absurd (false≢true may)
    goes_within now (scalar digit code) may = refl
    goes_within now (vector first digits code) may = refl
    goes_within now (real_or_string first text code) may = refl
    goes_within now (dump_word word) may = refl
    goes_within now (other word words) may = refl

    pub become : (limit : ℕ) (pieces : List Piece) → AllowsAll (initial_state limit) (items_of pieces)
        → state_of_pieces limit pieces ≡ s
        → may_become go come (initial_state limit) 0 pieces (made a true (initial_state limit) pieces) ≡ true
    become limit pieces allows is =
        let due = due_come come (λ kind words. refl) refl (λ digits. refl) a values added in
        let inserted = inserted_come come (λ kind words. refl) refl (λ digits. refl) a values added in
        pieces_become go come goes_within a s inserted (λ now. due now now.tick) goes true (initial_state limit) pieces
        allows is

pub untouched_items_stand : UntouchedItemsStand
untouched_items_stand limit file pieces tail s remaining derived text cut allows is in_body are sound few text_is =
    let state : IsFileState s = subst IsFileState (sym is) (state_of_file limit pieces allows cut.spelled) in
    let limited : s.limit ≡ limit = ap (λ (u : ParseState). u.limit) is ∙ same_limit (initial_state limit) (items_of
    pieces) in
    let room : length (signals_left remaining) + length derived ≤ s.limit = omega (arith, few, limited) in
    let a : Amendment = amendment_for s remaining derived in
    let signals : List SignalContents = signals_left remaining ++ derived in
    let made_of : List Piece = made a true (initial_state limit) pieces in (
      subst (λ l. FileMeans limit l (record (meaning s) { signals = signals }) (count_by is_skipped s.declared)) (sym
          text_is) (other_capture_of_pieces limit file pieces tail remaining derived s is cut allows
          (ap (λ (u : ParseState). u.in_body) (sym is) ∙ in_body) are
          sound few),
      record {
        made = made_of;
        cut = subst (λ l. IsCut l made_of tail) (sym text_is) (made_is_cut a s (fit s state remaining derived are sound
            room) file (initial_state limit) pieces tail cut allows);
        stand = subst (λ u. may_become (may_go u remaining) (may_be_put_in u remaining signals) (initial_state limit) 0
            pieces made_of ≡ true) is (become s state remaining derived are sound room limit pieces allows (sym is));
      },
    )
