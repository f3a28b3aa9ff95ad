-- The amendment for another capture: known of two hollow ones, with codes that are apart.
use Rattle.std.proofs.Common.{◌≡◌, Bool, false, if◌then◌else◌, List, [], ◌∷◌, ◌++◌, map, length, drop, Option, None}
use Rattle.std.proofs.Common.{Some, refl, sym, ap, ap₂, ◌∙◌, inl, inr, true, All, subst, not}
use Rattle.std.specs.List.{flat_map, list_any}
use Rattle.std.proofs.lemmas.Bool.{cases_Bool, false≢true}
use Rattle.std.specs.Prelude.{is_some, bytes_eq}
use Rattle.std.proofs.lemmas.List.{append_assoc}
use Rattle.std.proofs.lemmas.Option.{same_Some}
use Rattle.std.proofs.lemmas.List.Elements.{All-nil, All-cons, All-head, All-tail, All-append}
use Rattle.vcd_core.specs.declared.wave.Change.{Change}
use Rattle.vcd_core.specs.Contents.{SignalContents}
use Rattle.vcd_text.specs.Grammar.{VariableDeclaration, ParseState, kept_variables, is_skipped}
use Rattle.vcd_text.specs.Meaning.{declared_signal}
use Rattle.vcd_amend.specs.Amendment.{Amendment, Fate, first_with_code}
use Rattle.vcd_amend.specs.CodedAmendment.{fates_for, fate_for, derived_variable}
use Rattle.vcd_amend.specs.GivenCodes as given
use Rattle.vcd_amend.specs.GivenCodes.{NewWave, CodedWave, same_changes, same_new_wave, distinct_waves, coded_derived}
use Rattle.vcd_amend.specs.GivenCodes.{derived_new_wave}
use Rattle.vcd_amend.specs.FreshCodes.{fresh_code}
use Rattle.vcd_amend.specs.KnownSignals.{KnowsSignal, KnowsSignals}
use Rattle.vcd_amend.specs.inside.coding.KeptSignals.{KeptContents, kept_signal, kept_signals, held_codes, changed_wave}
use Rattle.vcd_amend.specs.inside.coding.KeptSignals.{changed_waves, coded_waves, fate_of_kept, fates_of_kept}
use Rattle.vcd_amend.specs.inside.coding.KeptSignals.{amendment_of_kept, wave_of_kept, code_of_kept}
use Rattle.vcd_amend.specs.AmendedMeaning.{AreApart}
use Rattle.vcd_amend.proofs.given_codes.NewWaves.{changes_itself}
use Rattle.vcd_amend.proofs.amended.OneCode.{itself}
use Rattle.vcd_amend.proofs.shared.Lists.{some_passes}
use Rattle.vcd_amend.proofs.given_codes.CodedWaves.{OwnKnown, coded_apart}
use Rattle.vcd_amend.proofs.given_codes.FreshCodes.{fresh_codes_are_fresh}

-- ==== the amendment of the kept variables in two hollow captures is that for the whole capture

-- ---- one variable

module _ (s : ParseState) (d : VariableDeclaration) (f n w : SignalContents)
    (knows : KnowsSignal (declared_signal s.value_changes s.tick d).changes f (Some n) (Some w)) where
  abbrev own : List Change
  own = (declared_signal s.value_changes s.tick d).changes

  abbrev row : KeptContents
  row = kept_signal d f.changes (Some n)

  -- the hollow captures tell whether it is unchanged
  same_test : given.is_unchanged s d w ≡ same_changes f.changes n.changes
  same_test = elim knows.1 [
    | inl (first, left) ↦ ap₂ same_changes (sym first) left
    | inr (first, left) ↦ ap (same_changes own) left ∙ changes_itself own
        ∙ sym (ap (λ l. same_changes l n.changes) first
        ∙ changes_itself n.changes)
  ]

  -- if it is not, they have its waves
  has_waves : same_changes f.changes n.changes ≡ false → (own ≡ f.changes) × (w.changes ≡ n.changes)
  has_waves other = elim knows.1 [
    | inl (first, left) ↦ (sym first, left)
    | inr (first, left) ↦ absurd (false≢true (sym other ∙ ap (λ l. same_changes l n.changes) first ∙ changes_itself
        n.changes))
  ]

  same_wave : same_changes f.changes n.changes ≡ false → given.new_wave_of s d w ≡ wave_of_kept row n
  same_wave other =
      let has = has_waves other in
      ap₂ (λ old new. record { own = Some d.code; width = d.size; old = old; new = new }) has.0 has.1

  same_words : w.words ≡ n.words
  same_words = ap (λ (m : SignalContents). m.words) knows.0

  -- its fate is the same
  same_fate : (gs : List CodedWave) → fate_for d (Some (given.coded_signal s gs d w)) ≡ fate_of_kept gs row (Some n)
  same_fate gs = ap₂ (λ words code. fate_for d (Some (record { signal = record n { words = words }; code = code })))
      same_words code
    where
      code : (given.coded_signal s gs d w).code ≡ code_of_kept gs row n
      code = elim (cases_Bool (same_changes f.changes n.changes)) [
        | inl same ↦
            ap (λ (b : Bool). if b then d.code else given.code_for_wave gs d.code (given.new_wave_of s d w))
            (same_test ∙ same)
            ∙ sym (ap (λ (b : Bool). if b then d.code else given.code_for_wave gs d.code (wave_of_kept
            row n)) same)
        | inr other ↦
            ap (λ (b : Bool). if b then d.code else given.code_for_wave gs d.code (given.new_wave_of s d w))
            (same_test ∙ other) ∙ ap (given.code_for_wave gs d.code) (same_wave other)
            ∙ sym (ap (λ (b : Bool). if b then d.code else given.code_for_wave gs d.code (wave_of_kept row n)) other)
      ]

-- ---- all variables

module _ (s : ParseState) where
  -- the codes that are held, the new waves and the fates are the same
  all_same : (ds : List VariableDeclaration) (fs : List SignalContents) (ls ws : List (Option SignalContents))
      → KnowsSignals s ds fs ls ws
      → (given.held_codes s ds ws ≡ held_codes (kept_signals ds fs ls))
      × (given.waves_of_changed s ds ws
      ≡ flat_map (λ (k : KeptContents). changed_wave k k.left) (kept_signals ds fs ls))
      × ((gs : List CodedWave) → fates_for ds (given.coded_signals s gs ds ws)
      ≡ fates_of_kept gs (kept_signals ds fs ls))
  all_same [] [] [] [] knows = (refl, refl, λ gs. refl)
  all_same [] [] [] (w ∷ ws) knows = absurd knows
  all_same [] [] (l ∷ ls) ws knows = absurd knows
  all_same [] (f ∷ fs) ls ws knows = absurd knows
  all_same (d ∷ ds) [] ls ws knows = absurd knows
  all_same (d ∷ ds) (f ∷ fs) [] ws knows = absurd knows
  all_same (d ∷ ds) (f ∷ fs) (l ∷ ls) [] knows = absurd knows
  all_same (d ∷ ds) (f ∷ fs) (None ∷ ls) (None ∷ ws) (one, knows) =
      let rest = all_same ds fs ls ws knows in
      (rest.0, rest.1, λ gs. ap (λ l. fate_for d None ∷ l) (rest.2 gs))
  all_same (d ∷ ds) (f ∷ fs) (None ∷ ls) (Some w ∷ ws) (one, knows) = absurd one
  all_same (d ∷ ds) (f ∷ fs) (Some n ∷ ls) (None ∷ ws) (one, knows) = absurd one
  all_same (d ∷ ds) (f ∷ fs) (Some n ∷ ls) (Some w ∷ ws) (one, knows) =
      let rest = all_same ds fs ls ws knows in (
        elim (cases_Bool (same_changes f.changes n.changes)) [
          | inl same ↦ rw (same_test s d f n w one ∙ same) (rw same (ap (λ l. d.code ∷ l) rest.0))
          | inr other ↦ rw (same_test s d f n w one ∙ other) (rw other rest.0)
        ],
        elim (cases_Bool (same_changes f.changes n.changes)) [
          | inl same ↦ rw (same_test s d f n w one ∙ same) (rw same rest.1)
          | inr other ↦ rw (same_test s d f n w one ∙ other) (rw other (ap₂ (λ v l. v ∷ l)
              (same_wave s d f n w one other) rest.1))
        ],
        λ gs. ap₂ (λ fate l. fate ∷ l) (same_fate s d f n w one gs) (rest.2 gs),
      )

  module _ (fs : List SignalContents) (ls ws : List (Option SignalContents)) (derived : List SignalContents)
      (knows : KnowsSignals s (kept_variables s.declared) fs ls ws) where
    abbrev rows : List KeptContents
    rows = kept_signals (kept_variables s.declared) fs ls

    same_changed : given.changed_waves s ws ≡ changed_waves rows
    same_changed = ap (distinct_waves []) (all_same (kept_variables s.declared) fs ls ws knows).1

    same_coded : given.coded_waves s ws derived ≡ coded_waves (fresh_code s) rows derived
    same_coded = ap₂ (λ held waves. given.coded_waves_from (fresh_code s) held 0
        (waves ++ map given.derived_new_wave derived)) (all_same (kept_variables s.declared) fs ls ws knows).0
        same_changed

    abbrev amendment_with : List Fate → List NewWave → List CodedWave → Amendment
    amendment_with fates waves gs = record {
      fates = fates;
      added = map derived_variable (coded_derived (drop (length waves) gs) derived);
      codes = map (λ g. g.coded) gs;
    }

    -- so the amendment is
    pub same_amendment : given.amendment_for s ws derived ≡ amendment_of_kept (fresh_code s) rows derived
    same_amendment =
        ap₂ (λ (gs : List CodedWave) (waves : List NewWave). amendment_with (fates_for (kept_variables s.declared)
        (given.coded_signals s gs (kept_variables s.declared) ws)) waves gs) same_coded same_changed
        ∙ ap (λ fates. amendment_with fates (changed_waves rows) (coded_waves (fresh_code s) rows derived))
        ((all_same (kept_variables s.declared) fs ls ws knows).2 (coded_waves (fresh_code s) rows derived))

-- ==== the amended codes of an amendment for another capture are apart

module _ (s : ParseState) where
  -- the code of the variable is one of the file
  abbrev IsKnown : VariableDeclaration → Type 0
  IsKnown d = is_some (first_with_code d.code s.declared) ≡ true

  abbrev HasOwn : NewWave → Type 0
  HasOwn = OwnKnown (fresh_code s) s (fresh_codes_are_fresh s)

  -- each variable of the file has one
  all_known : (before ds : List VariableDeclaration) → s.declared ≡ before ++ ds → All IsKnown (kept_variables ds)
  all_known before [] is = All-nil IsKnown
  all_known before (d ∷ ds) is =
      let here : IsKnown d = subst (λ (all : List VariableDeclaration). is_some (first_with_code d.code all) ≡ true)
      (sym is) (some_passes (λ e. bytes_eq d.code e.code) before d ds (itself d.code)) in
      let rest : All IsKnown (kept_variables ds) =
      all_known (before ++ d ∷ []) ds (is ∙ sym (append_assoc before (d ∷ []) ds)) in
      elim (cases_Bool (not (is_skipped d))) [
        | inl kept ↦ rw kept (All-cons IsKnown d (kept_variables ds) here rest)
        | inr skipped ↦ rw skipped rest
      ]

  variables_known : (ds : List VariableDeclaration) (fs : List SignalContents) (ls : List (Option SignalContents))
      → All IsKnown ds → All (λ k. IsKnown k.variable) (kept_signals ds fs ls)
  variables_known [] fs ls known = All-nil (λ (k : KeptContents). IsKnown k.variable)
  variables_known (d ∷ ds) [] ls known = All-nil (λ (k : KeptContents). IsKnown k.variable)
  variables_known (d ∷ ds) (f ∷ fs) [] known = All-nil (λ (k : KeptContents). IsKnown k.variable)
  variables_known (d ∷ ds) (f ∷ fs) (l ∷ ls) known =
      All-cons (λ (k : KeptContents). IsKnown k.variable) _ (kept_signals ds fs ls) (All-head IsKnown d ds known)
      (variables_known ds fs ls (All-tail IsKnown d ds known))

  -- the wave to which a variable changes has its code
  one_owned : (k : KeptContents) (left : Option SignalContents) (b : Bool) → k.is_unchanged ≡ b → IsKnown k.variable
      → All HasOwn (changed_wave k left)
  one_owned k None b is known = All-nil HasOwn
  one_owned k (Some n) true is known = rw is (All-nil HasOwn)
  one_owned k (Some n) false is known =
      rw is (All-cons HasOwn _ [] (λ code own.
      subst (λ c. is_some (first_with_code c s.declared) ≡ true) (same_Some k.variable.code code own) known)
      (All-nil HasOwn))

  all_owned : (ks : List KeptContents) → All (λ k. IsKnown k.variable) ks
      → All HasOwn (flat_map (λ k. changed_wave k k.left) ks)
  all_owned [] known = All-nil HasOwn
  all_owned (k ∷ ks) known =
      All-append HasOwn (changed_wave k k.left) (flat_map (λ k. changed_wave k k.left) ks)
      (one_owned k k.left k.is_unchanged refl (All-head (λ (k : KeptContents). IsKnown k.variable) k ks known))
      (all_owned ks (All-tail (λ (k : KeptContents). IsKnown k.variable) k ks known))

  distinct_owned : (seen ws : List NewWave) → All HasOwn ws → All HasOwn (distinct_waves seen ws)
  distinct_owned seen [] owned = All-nil HasOwn
  distinct_owned seen (w ∷ ws) owned = elim (cases_Bool (list_any (same_new_wave w) seen)) [
    | inl known ↦ rw known (distinct_owned seen ws (All-tail HasOwn w ws owned))
    | inr new ↦ rw new (All-cons HasOwn w (distinct_waves (w ∷ seen) ws) (All-head HasOwn w ws owned)
        (distinct_owned (w ∷ seen) ws (All-tail HasOwn w ws owned)))
  ]

  derived_owned : (ns : List SignalContents) → All HasOwn (map derived_new_wave ns)
  derived_owned [] = All-nil HasOwn
  derived_owned (n ∷ ns) = All-cons HasOwn (derived_new_wave n) (map derived_new_wave ns) (λ code own. absurd (cc))
      (derived_owned ns)

  pub codes_apart : (fs : List SignalContents) (ls : List (Option SignalContents)) (derived : List SignalContents)
      → AreApart (amendment_of_kept (fresh_code s) (kept_signals (kept_variables s.declared) fs ls) derived).codes
  codes_apart fs ls derived =
      let ks : List KeptContents = kept_signals (kept_variables s.declared) fs ls in
      coded_apart (fresh_code s) s (fresh_codes_are_fresh s) (held_codes ks) 0
      (changed_waves ks ++ map derived_new_wave derived)
      (All-append HasOwn (changed_waves ks) (map derived_new_wave derived)
      (distinct_owned [] _ (all_owned ks (variables_known (kept_variables s.declared) fs ls
      (all_known [] s.declared refl)))) (derived_owned derived))
