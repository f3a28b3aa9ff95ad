-- The codes that are given fit the other capture.
use Rattle.std.proofs.Common.{◌≡◌, ℕ, ◌+◌, ◌≤◌, Bool, true, false, ◌∙◌, All, List, [], ◌∷◌, ◌++◌, map, length, Option}
use Rattle.std.proofs.Common.{Some, None, if◌then◌else◌, take, drop, refl, sym, ap, ap₂, append_assoc, arith, inl, inr}
use Rattle.std.proofs.Common.{subst}
use Rattle.std.specs.Prelude.{find, bytes_eq, is_some}
use Rattle.std.specs.List.{list_any}
use Rattle.std.proofs.lemmas.Bool.{cases_Bool, false≢true, or_left, or_right}
use Rattle.std.proofs.lemmas.Option.{same_Some}
use Rattle.std.proofs.lemmas.List.{take-append-drop, length-map, take-map, drop-map}
use Rattle.std.proofs.Math.Seq.{take-append_seam, drop-append_seam}
use Rattle.std.proofs.lemmas.List.Elements.{All-nil, All-cons, All-head, All-tail, All-weaker, All-append, All-map}
use Rattle.vcd_core.specs.Word.{is_word, is_one_of}
use Rattle.vcd_core.specs.Wave.{IsWave, AllUpTo}
use Rattle.vcd_core.specs.Contents.{SignalContents}
use Rattle.vcd_core.specs.Sound.{IsSoundSignal}
use Rattle.vcd_text.specs.Grammar.{ParseState, VariableDeclaration, is_skipped, kept_variables}
use Rattle.vcd_text.specs.Meaning.{declared_signal}
use Rattle.vcd_copy.proofs.pieces.Cuts.{all_parts}
use Rattle.vcd_amend.specs.Amendment.{Amendment, AmendedCode, first_with_code, amended_code, amended_variables}
use Rattle.vcd_amend.specs.AmendedMeaning.{AreApart, class_of, FitsAmendedCode}
use Rattle.vcd_amend.specs.CodedAmendment.{CodedSignal, derived_variable, coded_amendment, signals_of_coded, HasWave}
use Rattle.vcd_amend.specs.CodedAmendment.{IsCodedSignalOf, AreCodedSignalsOf, IsCodedDerived, CodesFit}
use Rattle.vcd_amend.specs.GivenCodes.{NewWave, CodedWave, is_unchanged, new_wave_of, derived_new_wave, held_codes}
use Rattle.vcd_amend.specs.GivenCodes.{waves_of_changed, same_new_wave, distinct_waves, coded_waves_from, code_of_coded}
use Rattle.vcd_amend.specs.GivenCodes.{code_for_wave, coded_signal, coded_signals, coded_derived, IsSignalOf}
use Rattle.vcd_amend.specs.GivenCodes.{AreSignalsOf, signals_left, IsFileState, GivenCodesFit}
use Rattle.vcd_amend.specs.FreshCodes.{AreFresh, fresh_code}
use Rattle.vcd_amend.proofs.given_codes.FreshCodes.{fresh_codes_are_fresh}
use Rattle.vcd_amend.proofs.amended.OneCode.{itself}
use Rattle.vcd_amend.proofs.shared.Lists.{found_has, found_is, is_there, some_passes, each_of_both, some_first}
use Rattle.vcd_amend.proofs.shared.Lists.{some_last, found_first, all_of_map}
use Rattle.vcd_amend.proofs.amended.Fitting.{found_apart}
use Rattle.vcd_amend.proofs.given_codes.Gives.{with_coded_signal, kept_to, later, declared_to, variables_to, kept_class}
use Rattle.vcd_amend.proofs.given_codes.CodedWaves.{OwnKnown, taken_not_given, coded_apart, waves_are, IsOwn, IsNewWave}
use Rattle.vcd_amend.proofs.given_codes.CodedWaves.{IsCodedWave, are_coded_waves}
use Rattle.vcd_amend.proofs.given_codes.NewWaves.{HasOwn, changes_from_test, new_wave_parts, is_first, WavesApart}
use Rattle.vcd_amend.proofs.given_codes.NewWaves.{firsts_apart, firsts_have, found_by_wave, found_itself}

-- ---- lists

each_is_one : (cs : List (List ℕ)) → All (λ c. is_one_of cs c ≡ true) cs
each_is_one [] = All-nil (λ c. is_one_of [] c ≡ true)
each_is_one (c ∷ cs) = All-cons (λ x. is_one_of (c ∷ cs) x ≡ true) c cs (or_left _ _ (itself c)) (All-weaker (λ x.
    is_one_of cs x ≡ true) (λ x. is_one_of (c ∷ cs) x ≡ true) (λ x h. or_right _ _ h) cs (each_is_one cs))

module _ (fresh : ℕ → List ℕ) (s : ParseState) (are_fresh : AreFresh s fresh) (file : IsFileState s)
  where
    -- ---- the kept variables

    record IsKept (d : VariableDeclaration) : Type 0 where
      known : is_some (first_with_code d.code s.declared) ≡ true
      word : is_word d.code ≡ true
      class : (e : VariableDeclaration) → first_with_code d.code s.declared ≡ Some e → class_of e ≡ Some d.size

    kept_from : (xs ys : List VariableDeclaration) → s.declared ≡ xs ++ ys → All IsKept (kept_variables ys)
    kept_from xs [] is = All-nil IsKept
    kept_from xs (d ∷ ys) is =
        let rest = kept_from (xs ++ d ∷ []) ys (is ∙ sym (append_assoc xs (d ∷ []) ys)) in
        elim (cases_Bool (is_skipped d)) [
          | inl skipped ↦ rw skipped rest
          | inr kept ↦ rw kept (All-cons IsKept d _ (record {
            known = ap (λ l. is_some (first_with_code d.code l)) is ∙ some_passes (λ (e : VariableDeclaration). bytes_eq
                d.code
                e.code) xs d ys (itself d.code);
            word = at_d (λ d. is_word d.code ≡ true) file.words;
            class = λ e first. sym (at_d (λ x. x.code ≡ d.code → class_of x ≡ class_of e) (file.alike d.code e first)
                refl)
                ∙ kept_class d kept;
          }) rest)
        ]
      where
        at_d : (P : VariableDeclaration → Type 0) → All P s.declared → P d
        at_d P all = All-head P d ys (all_parts P xs (d ∷ ys) (subst (All P) is all)).1

    -- the new wave of a changed one
    new_wave_is : (d : VariableDeclaration) (n : SignalContents) → IsKept d → IsSignalOf s d n
        → IsNewWave fresh s are_fresh (new_wave_of s d n)
    new_wave_is d n kept new = record {
      own = λ code is. subst (IsOwn fresh s are_fresh (new_wave_of s d n)) (same_Some d.code code is) (record {
        known = kept.known;
        word = kept.word;
        class = kept.class;
        old = refl;
      });
      wave = subst (λ w. IsWave w n.changes) new.width new.sound.wave;
      upto = new.sound.ticks;
    }

    are_new_waves : (ds : List VariableDeclaration) (ns : List (Option SignalContents)) → All IsKept ds
        → AreSignalsOf s ds ns
        → All (IsNewWave fresh s are_fresh) (waves_of_changed s ds ns) × All HasOwn (waves_of_changed s ds ns)
    are_new_waves [] ns kept new = (All-nil (IsNewWave fresh s are_fresh), All-nil HasOwn)
    are_new_waves (d ∷ ds) [] kept new = absurd new
    are_new_waves (d ∷ ds) (None ∷ ns) kept new = are_new_waves ds ns (All-tail IsKept d ds kept) new
    are_new_waves (d ∷ ds) (Some n ∷ ns) kept (here, new) =
        let rest = are_new_waves ds ns (All-tail IsKept d ds kept) new in
        elim (cases_Bool (is_unchanged s d n)) [
          | inl same ↦ rw same rest
          | inr differs ↦ rw differs (
            All-cons (IsNewWave fresh s are_fresh) (new_wave_of s d n) _ (new_wave_is d n (All-head IsKept d ds
                kept) here) rest.0,
            All-cons HasOwn (new_wave_of s d n) _ (d.code, refl) rest.1,
          )
        ]

    module _ (remaining : List (Option SignalContents)) (derived : List SignalContents)
        (new : AreSignalsOf s (kept_variables s.declared) remaining) (sound : All (IsSoundSignal s.tick) derived) where
      abbrev ks : List VariableDeclaration
      ks = kept_variables s.declared

      abbrev held : List (List ℕ)
      held = held_codes s ks remaining

      abbrev firsts : List NewWave
      firsts = distinct_waves [] (waves_of_changed s ks remaining)

      abbrev all : List NewWave
      all = firsts ++ map derived_new_wave derived

      abbrev gs : List CodedWave
      gs = coded_waves_from fresh held 0 all

      abbrev cs : List AmendedCode
      cs = map (λ g. g.coded) gs

      abbrev front : List CodedWave
      front = take (length firsts) gs

      abbrev back : List CodedWave
      back = drop (length firsts) gs

      kept : All IsKept ks
      kept = kept_from [] s.declared refl

      good : All (IsNewWave fresh s are_fresh) (waves_of_changed s ks remaining) × All HasOwn
          (waves_of_changed s ks remaining)
      good = are_new_waves ks remaining kept new

      derived_good : (ns : List SignalContents) → All (IsSoundSignal s.tick) ns
          → All (IsNewWave fresh s are_fresh) (map derived_new_wave ns)
      derived_good [] sound = All-nil (IsNewWave fresh s are_fresh)
      derived_good (n ∷ ns) sound =
          let here = All-head (IsSoundSignal s.tick) n ns sound in
          All-cons (IsNewWave fresh s are_fresh) (derived_new_wave n) _ (record {
            own = λ code is. let never : None ≡ Some code = is in absurd (cc);
            wave = here.wave;
            upto = here.ticks;
          }) (derived_good ns (All-tail (IsSoundSignal s.tick) n ns sound))

      all_good : All (IsNewWave fresh s are_fresh) all
      all_good = All-append (IsNewWave fresh s are_fresh) _ _ (firsts_have (IsNewWave fresh s are_fresh) []
          (waves_of_changed s ks remaining) good.0) (derived_good derived sound)

      coded_good : All (IsCodedWave fresh s are_fresh) gs
      coded_good = are_coded_waves fresh s are_fresh held 0 all file.known all_good

      apart : AreApart cs
      apart = coded_apart fresh s are_fresh held 0 all (All-weaker (IsNewWave fresh s are_fresh)
          (OwnKnown fresh s are_fresh) (λ w is code own. (is.own code own).known) all all_good)

      -- each coded wave is found by its code
      abbrev IsCoded : CodedWave → Type 0
      IsCoded g = amended_code g.coded.code cs ≡ Some g.coded

      coded : All IsCoded gs
      coded = all_of_map (λ (c : AmendedCode). amended_code c.code cs ≡ Some c) (λ (g : CodedWave). g.coded) gs
          (found_apart cs apart)

      waves_of_all : map (λ g. g.wave) gs ≡ all
      waves_of_all = waves_are fresh s are_fresh held 0 all

      both : gs ≡ front ++ back
      both = sym (take-append-drop (length firsts) gs)

      waves_in_front : map (λ g. g.wave) front ≡ firsts
      waves_in_front = sym (take-map (λ (g : CodedWave). g.wave) (length firsts) gs)
          ∙ ap (take (length firsts)) waves_of_all
          ∙ take-append_seam firsts (map derived_new_wave derived)

      waves_behind : map (λ g. g.wave) back ≡ map derived_new_wave derived
      waves_behind = sym (drop-map (λ (g : CodedWave). g.wave) (length firsts) gs)
          ∙ ap (drop (length firsts)) waves_of_all
          ∙ drop-append_seam firsts (map derived_new_wave derived)

      -- each new wave of a changed variable is met
      abbrev IsMet : NewWave → Type 0
      IsMet w = is_some (find (λ (g : CodedWave). same_new_wave w g.wave) gs) ≡ true

      pub met : All IsMet (waves_of_changed s ks remaining)
      met = All-weaker (λ w. list_any (same_new_wave w) [] ≡ false → is_some (find (same_new_wave w) firsts) ≡ true)
          IsMet (λ w first. sym (found_by_wave (same_new_wave w) gs) ∙ ap (λ l. is_some (find (same_new_wave w) l))
          waves_of_all
          ∙ some_first (same_new_wave w) firsts (map derived_new_wave derived) (first refl)) (waves_of_changed s ks
          remaining) (is_first [] (waves_of_changed s ks remaining) good.1)

      -- ---- the variables that are left

      unchanged_left : (d : VariableDeclaration) (n : SignalContents) → IsKept d → IsSignalOf s d n
          → is_unchanged s d n ≡ true → is_one_of held d.code ≡ true
          → IsCodedSignalOf s cs d (record { signal = n; code = d.code })
      unchanged_left d n kept new same there =
          let none : amended_code d.code cs ≡ None = taken_not_given fresh s are_fresh d.code held 0 all
          kept.known there in
          record {
            scopes = new.scopes;
            kind = new.kind;
            width = new.width;
            words = new.sound.words;
            named = new.sound.named;
            word = kept.word;
            wave = subst (HasWave s d (record { signal = n; code = d.code })) (sym none) (
              refl,
              sym (changes_from_test
                  (declared_signal s.value_changes s.tick d).changes n.changes same),
            );
          }

      changed_left : (d : VariableDeclaration) (n : SignalContents) → IsKept d → IsSignalOf s d n → (g : CodedWave)
          → find (λ (g : CodedWave). same_new_wave (new_wave_of s d n) g.wave) gs ≡ Some g
          → IsCodedSignalOf s cs d (record { signal = n; code = g.coded.code })
      changed_left d n kept new g found =
          let parts = new_wave_parts (new_wave_of s d n) g.wave (found_is (λ (g : CodedWave). same_new_wave
          (new_wave_of s d n) g.wave) gs g found)
          in
          let coded_wave = found_has (IsCodedWave fresh s are_fresh) (λ (g : CodedWave). same_new_wave
          (new_wave_of s d n) g.wave) gs g coded_good found
          in
          let code_is : amended_code g.coded.code cs ≡ Some g.coded = found_has IsCoded (λ (g : CodedWave).
          same_new_wave (new_wave_of s d n) g.wave) gs g coded found in
          let first = is_there (first_with_code d.code s.declared) kept.known in
          let width : g.wave.width ≡ d.size = same_Some _ _ (sym ((coded_wave.wave.own d.code (sym parts.0)).class
          first.0 first.1)
          ∙ kept.class first.0 first.1) in
          record {
            scopes = new.scopes;
            kind = new.kind;
            width = new.width;
            words = new.sound.words;
            named = new.sound.named;
            word = coded_wave.word;
            wave = subst (HasWave s d (record { signal = n; code = g.coded.code })) (sym code_is) (
              coded_wave.width ∙ width,
              parts.1 ∙ sym coded_wave.new,
            );
          }

      -- with the code that is given
      one_left : (d : VariableDeclaration) (n : SignalContents) → IsKept d → IsSignalOf s d n → (same : Bool)
          → is_unchanged s d n ≡ same → (same ≡ true → is_one_of held d.code ≡ true)
          → (same ≡ false → IsMet (new_wave_of s d n)) → IsCodedSignalOf s cs d (coded_signal s gs d n)
      one_left d n kept new true is there meets = subst (λ (b : Bool). IsCodedSignalOf s cs d (record {
        signal = n;
        code = if b then
            d.code else code_for_wave gs d.code (new_wave_of s d n);
      })) (sym is) (unchanged_left d n kept new is (there refl))
      one_left d n kept new false is there meets =
          let coded_wave = is_there (find (λ (g : CodedWave). same_new_wave (new_wave_of s d n) g.wave) gs) (meets refl)
          in
          subst (λ (b : Bool). IsCodedSignalOf s cs d (record {
            signal = n;
            code = if b then d.code else code_for_wave gs d.code (new_wave_of s d
                n);
          })) (sym is) (subst (λ o. IsCodedSignalOf s cs d (record { signal = n; code = code_of_coded o d.code }))
          (sym coded_wave.1) (changed_left d n kept new coded_wave.0 coded_wave.1))

      abbrev IsHeld : List ℕ → Type 0
      IsHeld code = is_one_of held code ≡ true

      are_left : (ds : List VariableDeclaration) (ns : List (Option SignalContents)) → All IsKept ds
          → AreSignalsOf s ds ns
          → All IsMet (waves_of_changed s ds ns) → All IsHeld (held_codes s ds ns) → AreCodedSignalsOf s cs ds
          (coded_signals s gs ds ns)
      are_left [] [] kept new meets there = tt
      are_left [] (n ∷ ns) kept new meets there = absurd new
      are_left (d ∷ ds) [] kept new meets there = absurd new
      are_left (d ∷ ds) (None ∷ ns) kept new meets there = are_left ds ns (All-tail IsKept d ds kept) new meets there
      are_left (d ∷ ds) (Some n ∷ ns) kept (here, new) meets there = elim (cases_Bool (is_unchanged s d n)) [
        | inl same ↦
            let met_too : All IsMet (waves_of_changed s ds ns) = rw same at meets in
            let there_too : All IsHeld (d.code ∷ held_codes s ds ns) = rw same at there in (
              one_left d n (All-head IsKept d ds kept) here true same (λ _. All-head IsHeld d.code _ there_too) (λ no.
                  absurd (false≢true (sym no))),
              are_left ds ns (All-tail IsKept d ds kept) new met_too (All-tail IsHeld d.code _
                  there_too),
            )
        | inr differs ↦
            let met_too : All IsMet (new_wave_of s d n ∷ waves_of_changed s ds ns) = rw differs at meets in
            let there_too : All IsHeld (held_codes s ds ns) = rw differs at there in (
              one_left d n (All-head IsKept d ds kept) here false differs (λ no. absurd (false≢true no))
                  (λ _. All-head IsMet
                  (new_wave_of s d n) _ met_too),
              are_left ds ns (All-tail IsKept d ds kept) new (All-tail IsMet (new_wave_of s d n) _
                  met_too) there_too,
            )
      ]

      -- ---- derived signals

      are_derived : (hs : List CodedWave) (ns : List SignalContents) → map (λ g. g.wave) hs ≡ map derived_new_wave ns
          → All IsCoded hs → All (IsCodedWave fresh s are_fresh) hs → All (IsSoundSignal s.tick) ns
          → All (IsCodedDerived s cs) (coded_derived hs ns)
      are_derived [] [] is codes fine sound = All-nil (IsCodedDerived s cs)
      are_derived [] (n ∷ ns) is codes fine sound = All-nil (IsCodedDerived s cs)
      are_derived (h ∷ hs) [] is codes fine sound = All-nil (IsCodedDerived s cs)
      are_derived (h ∷ hs) (n ∷ ns) is codes fine sound =
          let coded_wave = All-head (IsCodedWave fresh s are_fresh) h hs fine in
          let wave : h.wave ≡ derived_new_wave n = ap (λ l. first_or (derived_new_wave n) l) is in
          All-cons (IsCodedDerived s cs) _ _ (record {
            sound = All-head (IsSoundSignal s.tick) n ns sound;
            word = coded_wave.word;
            by = h.coded;
            found = All-head IsCoded h hs codes;
            width = coded_wave.width ∙ ap (λ (w : NewWave). w.width) wave;
            wave = sym (coded_wave.new ∙ ap (λ (w : NewWave). w.new) wave);
          }) (are_derived hs ns (ap (drop 1) is) (All-tail IsCoded h hs codes) (All-tail (IsCodedWave fresh s
          are_fresh) h hs fine) (All-tail (IsSoundSignal s.tick) n ns sound))
        where
          first_or : NewWave → List NewWave → NewWave
          first_or w [] = w
          first_or w (x ∷ xs) = x

      -- ---- each amended code is one of a variable

      -- a new wave's code is that of a variable that is left
      abbrev IsUsed : List VariableDeclaration → NewWave → Type 0
      IsUsed ds w = (own : List ℕ) → w.own ≡ Some own → is_some (first_with_code (code_for_wave gs own w) ds) ≡ true

      used_later : (e : VariableDeclaration) (ds : List VariableDeclaration) (ws : List NewWave) → All (IsUsed ds) ws
          → All (IsUsed (e ∷ ds)) ws
      used_later e ds ws used = All-weaker (IsUsed ds) (IsUsed (e ∷ ds)) (λ w h own is. some_last (λ (d :
          VariableDeclaration). bytes_eq (code_for_wave gs own w) d.code) (e ∷ []) ds (h own is)) ws used

      used_here : (d : VariableDeclaration) (n : SignalContents) (ds : List VariableDeclaration)
          → is_unchanged s d n ≡ false → IsUsed (with_coded_signal d (coded_signal s gs d n) ∷ ds) (new_wave_of s d n)
      used_here d n ds differs own is =
          let code : code_for_wave gs own (new_wave_of s d n) ≡ (coded_signal s gs d n).code = ap
          (λ k. code_for_wave gs k (new_wave_of s d n)) (sym (same_Some d.code own is)) ∙ ap (λ (b : Bool). if b then
          d.code else code_for_wave gs d.code (new_wave_of s d n)) (sym differs) in
          let same : bytes_eq (code_for_wave gs own (new_wave_of s d n)) (coded_signal s gs d n).code
          ≡ true = ap (λ k. bytes_eq k (coded_signal s gs d n).code) code ∙ itself (coded_signal s gs d n).code in
          some_passes (λ (e : VariableDeclaration). bytes_eq (code_for_wave gs own (new_wave_of s d n)) e.code) []
          (with_coded_signal d (coded_signal s gs d n)) ds same

      -- of a variable that is kept
      used_kept : (d : VariableDeclaration) (ds : List VariableDeclaration) (ns : List (Option SignalContents))
          → AreSignalsOf s (d ∷ kept_variables ds) ns → ((ns : List (Option SignalContents))
          → AreSignalsOf s (kept_variables ds) ns
          → All (IsUsed (declared_to ds (coded_signals s gs (kept_variables ds) ns))) (waves_of_changed s
          (kept_variables ds) ns))
          → All (IsUsed (kept_to false d (coded_signals s gs (d ∷ kept_variables ds) ns)
          ++ declared_to ds (later false (coded_signals s gs (d ∷ kept_variables ds) ns)))) (waves_of_changed s (d ∷
          kept_variables ds) ns)
      used_kept d ds [] new again = absurd new
      used_kept d ds (None ∷ ns) new again = again ns new
      used_kept d ds (Some n ∷ ns) (here, new) again =
          let rest = used_later (with_coded_signal d (coded_signal s gs d n)) _ _ (again ns new) in
          elim (cases_Bool (is_unchanged s d n)) [
            | inl same ↦ subst (All (IsUsed (with_coded_signal d (coded_signal s gs d n) ∷ declared_to ds
                (coded_signals s gs (kept_variables ds) ns)))) (ap (λ (b : Bool). if b then waves_of_changed s
                (kept_variables ds) ns else new_wave_of s d n
                ∷ waves_of_changed s (kept_variables ds) ns) (sym same)) rest
            | inr differs ↦ subst (All (IsUsed (with_coded_signal d (coded_signal s gs d n)
                ∷ declared_to ds (coded_signals s gs (kept_variables ds) ns)))) (ap (λ (b : Bool). if b then
                waves_of_changed s (kept_variables ds) ns else new_wave_of s d n
                ∷ waves_of_changed s (kept_variables ds) ns) (sym differs)) (All-cons (IsUsed (with_coded_signal d
                (coded_signal s gs d n) ∷ declared_to ds (coded_signals s gs (kept_variables ds) ns))) (new_wave_of s d
                n) _ (used_here d n (declared_to ds (coded_signals s gs (kept_variables ds) ns)) differs) rest)
          ]

      used_from : (ds : List VariableDeclaration) (ns : List (Option SignalContents)) → AreSignalsOf s
          (kept_variables ds) ns
          → All (IsUsed (declared_to ds (coded_signals s gs (kept_variables ds) ns))) (waves_of_changed s
          (kept_variables ds) ns)
      used_from [] ns new = All-nil (IsUsed [])
      used_from (d ∷ ds) ns new = elim (cases_Bool (is_skipped d)) [
        | inl skips ↦
            let none : kept_variables (d ∷ ds) ≡ kept_variables ds = rw skips refl in
            rw skips (used_later d _ _ (used_from ds ns (subst (λ l. AreSignalsOf s l ns) none new)))
        | inr keeps ↦
            let one : kept_variables (d ∷ ds) ≡ d ∷ kept_variables ds = rw keeps refl in
            rw keeps (used_kept d ds ns (subst (λ l. AreSignalsOf s l ns) one new) (used_from ds))
      ]

      -- ---- the whole

      abbrev left : List (Option CodedSignal)
      left = coded_signals s gs ks remaining

      abbrev right : List CodedSignal
      right = coded_derived back derived

      abbrev a : Amendment
      a = coded_amendment s left right cs

      left_fits : AreCodedSignalsOf s cs ks left
      left_fits = are_left ks remaining kept new met (each_is_one held)

      as_many_left : (ds : List VariableDeclaration) (ns : List (Option SignalContents)) → AreSignalsOf s ds ns
          → length ds ≡ length (coded_signals s gs ds ns)
      as_many_left [] ns new = refl
      as_many_left (d ∷ ds) [] new = absurd new
      as_many_left (d ∷ ds) (None ∷ ns) new = let rest = as_many_left ds ns new in omega (arith, rest)
      as_many_left (d ∷ ds) (Some n ∷ ns) (here, new) = let rest = as_many_left ds ns new in omega (arith, rest)

      signals_same : (ds : List VariableDeclaration) (ns : List (Option SignalContents)) → AreSignalsOf s ds ns
          → signals_of_coded (coded_signals s gs ds ns) ≡ signals_left ns
      signals_same [] [] new = refl
      signals_same [] (n ∷ ns) new = absurd new
      signals_same (d ∷ ds) [] new = absurd new
      signals_same (d ∷ ds) (None ∷ ns) new = signals_same ds ns new
      signals_same (d ∷ ds) (Some n ∷ ns) (here, new) = ap (λ l. n ∷ l) (signals_same ds ns new)

      as_many_derived : (hs : List CodedWave) (ns : List SignalContents) → length hs ≡ length ns
          → length (coded_derived hs ns) ≡ length ns
      as_many_derived [] [] long = refl
      as_many_derived [] (n ∷ ns) long = absurd (omega (arith, long))
      as_many_derived (h ∷ hs) [] long = absurd (omega (arith, long))
      as_many_derived (h ∷ hs) (n ∷ ns) long = let rest = as_many_derived hs ns (omega (arith, long)) in omega
          (arith, rest)

      back_long : length back ≡ length derived
      back_long = sym (length-map back (λ (g : CodedWave). g.wave)) ∙ ap length waves_behind
          ∙ length-map derived derived_new_wave

      parts_good : All IsCoded front × All IsCoded back
      parts_good = all_parts IsCoded front back (subst (All IsCoded) both coded)

      pub variables_are : amended_variables a s.declared ≡ declared_to s.declared left ++ map derived_variable right
      variables_are = ap (λ l. l ++ map derived_variable right) (variables_to a [] s.declared left [] refl refl
          (as_many_left ks remaining new))

      abbrev Used : CodedWave → Type 0
      Used g = is_some (first_with_code g.coded.code (amended_variables a s.declared)) ≡ true

      -- those of changed variables
      front_used : All Used front
      front_used = each_of_both (λ (g : CodedWave). find (λ (x : CodedWave). same_new_wave g.wave x.wave) front
          ≡ Some g) (λ (g : CodedWave). IsUsed (declared_to s.declared left) g.wave × HasOwn g.wave) Used (λ g found
          (used, (own, is)).
          let found_all : find (λ (x : CodedWave). same_new_wave g.wave x.wave) gs ≡ Some g = ap
          (find (λ (x : CodedWave). same_new_wave g.wave x.wave)) both ∙ found_first (λ (x : CodedWave). same_new_wave
          g.wave x.wave) front back g found in
          let code : code_for_wave gs own g.wave ≡ g.coded.code = ap (λ o. code_of_coded o own) found_all in
          ap (λ l. is_some (first_with_code g.coded.code l)) variables_are ∙ some_first (λ (d : VariableDeclaration).
          bytes_eq g.coded.code d.code) (declared_to s.declared left) (map derived_variable right) (subst
          (λ k. is_some (first_with_code k (declared_to s.declared left)) ≡ true) code (used own is))) front
          (found_itself front (subst WavesApart (sym waves_in_front) (firsts_apart [] (waves_of_changed s ks remaining)
          good.1)) own_front) used_front
        where
          own_front : All (λ (g : CodedWave). HasOwn g.wave) front
          own_front = all_of_map HasOwn (λ (g : CodedWave). g.wave) front (subst (All HasOwn) (sym waves_in_front)
              (firsts_have HasOwn [] (waves_of_changed s ks remaining) good.1))

          used_front : All (λ (g : CodedWave). IsUsed (declared_to s.declared left) g.wave × HasOwn g.wave) front
          used_front = each_of_both (λ (g : CodedWave). IsUsed (declared_to s.declared left) g.wave)
              (λ (g : CodedWave). HasOwn g.wave) (λ (g : CodedWave). IsUsed (declared_to s.declared left) g.wave ×
              HasOwn g.wave) (λ g x y. (x, y)) front (all_of_map (IsUsed (declared_to s.declared left)) (λ (g :
              CodedWave). g.wave) front (subst (All (IsUsed (declared_to s.declared left))) (sym waves_in_front)
              (firsts_have (IsUsed (declared_to s.declared left)) [] (waves_of_changed s ks remaining) (used_from
              s.declared remaining new)))) own_front

      -- those of derived signals
      back_in : (hs : List CodedWave) (ns : List SignalContents) → length hs ≡ length ns
          → All (λ (g : CodedWave). is_some (first_with_code g.coded.code (map derived_variable (coded_derived hs ns)))
          ≡ true) hs
      back_in [] ns long = All-nil (λ (g : CodedWave). is_some (first_with_code g.coded.code
          (map derived_variable (coded_derived [] ns))) ≡ true)
      back_in (h ∷ hs) [] long = absurd (omega (arith, long))
      back_in (h ∷ hs) (n ∷ ns) long = All-cons (λ (g : CodedWave). is_some (first_with_code g.coded.code
          (map derived_variable (coded_derived (h ∷ hs) (n ∷ ns)))) ≡ true) h hs (rw (itself h.coded.code) refl)
          (All-weaker (λ (g : CodedWave). is_some (first_with_code g.coded.code (map derived_variable (coded_derived hs
          ns))) ≡ true) (λ (g : CodedWave). is_some (first_with_code g.coded.code (map derived_variable (coded_derived
          (h ∷ hs) (n ∷ ns)))) ≡ true) (λ g some. some_last (λ (d
          : VariableDeclaration). bytes_eq g.coded.code d.code) (derived_variable (record {
            signal = n;
            code =
                h.coded.code;
          })
          ∷ []) (map derived_variable (coded_derived hs ns)) some) hs (back_in hs ns (omega (arith, long))))

      back_used : All Used back
      back_used = All-weaker (λ (g : CodedWave). is_some (first_with_code g.coded.code (map derived_variable right))
          ≡ true) Used (λ g some. ap (λ l. is_some (first_with_code g.coded.code l)) variables_are ∙ some_last
          (λ (d : VariableDeclaration). bytes_eq g.coded.code d.code) (declared_to s.declared left) (map
          derived_variable right) some) back (back_in back derived back_long)

      codes_fit : All (FitsAmendedCode a s) cs
      codes_fit = All-map (FitsAmendedCode a s) (λ (g : CodedWave). g.coded) gs (each_of_both
          (IsCodedWave fresh s are_fresh) Used (λ
          (g : CodedWave). FitsAmendedCode a s g.coded) (λ g coded_wave used. record {
            word = coded_wave.word;
            used = used;
            fits = coded_wave.fits;
            old = coded_wave.old;
            new = subst (λ l. IsWave g.coded.width l) (sym coded_wave.new) (subst (λ w. IsWave w g.wave.new)
                (sym coded_wave.width)
                coded_wave.wave.wave);
            upto = subst (AllUpTo s.tick) (sym coded_wave.new) coded_wave.wave.upto;
          }) gs coded_good (subst (All Used) (sym both) (All-append Used front back front_used back_used)))

      derived_same : (hs : List CodedWave) (ns : List SignalContents) → length hs ≡ length ns
          → map (λ t. t.signal) (coded_derived hs ns) ≡ ns
      derived_same [] [] long = refl
      derived_same [] (n ∷ ns) long = absurd (omega (arith, long))
      derived_same (h ∷ hs) [] long = absurd (omega (arith, long))
      derived_same (h ∷ hs) (n ∷ ns) long = ap (λ l. n ∷ l) (derived_same hs ns (omega (arith, long)))

      pub signals_given : signals_of_coded left ++ map (λ t. t.signal) right ≡ signals_left remaining ++ derived
      signals_given = ap₂ (λ x y. x ++ y) (signals_same ks remaining new) (derived_same back derived back_long)

      pub all_fit : length (signals_left remaining) + length derived ≤ s.limit → CodesFit s left right cs
      all_fit few = record {
        alike = file.alike;
        apart = apart;
        codes = codes_fit;
        variables = left_fits;
        added = are_derived back derived waves_behind parts_good.1 (all_parts (IsCodedWave fresh s are_fresh)
            front back (subst
            (All (IsCodedWave fresh s are_fresh)) both coded_good)).1 sound;
        few =
            let same = ap length (signals_same ks remaining new) in
            let many = as_many_derived back derived back_long in
            omega (arith, same, many, few);
      }

pub given_codes_fit : GivenCodesFit
given_codes_fit s remaining derived file new sound few =
    all_fit (fresh_code s) s (fresh_codes_are_fresh s) file remaining derived new sound few
