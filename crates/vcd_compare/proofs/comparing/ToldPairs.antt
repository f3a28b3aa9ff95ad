-- What is told of each pair after the walk is what the definition says of its two variables.
use Rattle.std.proofs.Common.{◌≡◌, ℕ, ◌-◌, ◌≤◌, nat_lt, true, false, List, [], ◌∷◌, ◌++◌, map, refl, sym, ap, ap₂}
use Rattle.std.proofs.Common.{◌∙◌, arith, Option, Some, length}
use Rattle.std.specs.Prelude.{slice_get, slice_index_or, option_map, bytes_eq}
use Rattle.std.specs.List.{flat_map, range_with_len}
use Rattle.std.proofs.lemmas.Bool.{cond-true, cond-false}
use Rattle.std.proofs.lemmas.List.{map-append, length-map}
use Rattle.std.proofs.lemmas.List.Elements.{All-head, All-tail}
use Rattle.std.proofs.lemmas.List.FromFn.{get_or-map-range_with_len, length-map-range_with_len}
use Rattle.std.proofs.lemmas.Option.{get_or_from_slice_get, slice_get-map}
use Rattle.vcd_core.specs.Contents.{signal_at, no_signal}
use Rattle.vcd_core.specs.Value.{same_letters}
use Rattle.vcd_core.specs.declared.bit.Bit.{Bit}
use Rattle.vcd_text.specs.Grammar.{VariableDeclaration, ParseState, kept_variables}
use Rattle.vcd_text.specs.HeardChanges.{skipped_variables}
use Rattle.vcd_text.specs.Meaning.{declared_signal, meaning}
use Rattle.vcd_text.specs.declared.reading.choice.TickRange.{TickRange}
use Rattle.vcd_compare.specs.Captures.{wave_by_tick, outcome_at, outcomes_of}
use Rattle.vcd_compare.specs.Comparisons.{factor_in, pair_told, pairs_told, differences_told, short_run_told}
use Rattle.vcd_compare.specs.Comparisons.{letters_in, words_in}
use Rattle.vcd_compare.specs.Differences.{ticks_between, compared}
use Rattle.vcd_compare.specs.ShortestRun.{short_run}
use Rattle.vcd_compare.specs.VariableDifferences.{VariableDifferences, by_letters, by_words}
use Rattle.vcd_compare.specs.Variables.{ComparedContents, with_all, word_variable, word_variables, word_by_tick}
use Rattle.vcd_compare.specs.Variables.{word_variable_at, no_word_variable, is_signal_at}
use Rattle.vcd_compare.specs.inside.Outcomes.{positions_of, compared_positions}
use Rattle.vcd_compare.specs.inside.Pairs.{IsToldOf, AreTold, AreToldOf, AreToldOfWaves}
use Rattle.vcd_compare.specs.inside.Planning.{pair_positions}
use Rattle.vcd_compare.specs.inside.SignalPair.{PairWaves, letters, words}
use Rattle.vcd_compare.specs.inside.Walk.{IsPlannedPair, ArePlanned, IsWalkedPair, AreWalked, wave_of, word_wave_of}
use Rattle.vcd_compare.specs.inside.Walk.{WholeFile, AreBegun, AreComparedUpTo, IsComparedUpTo, are_letters}
use Rattle.vcd_compare.specs.inside.Walk.{all_variables, is_kept_at}
use Rattle.vcd_compare.specs.declared.differences.Differences.{Differences}
use Rattle.vcd_compare.specs.declared.wave_pair.Bounds.{Bounds}
use Rattle.vcd_compare.specs.declared.wave_pair.WavePair.{WavePair}
use Rattle.vcd_compare.specs.declared.pairs.SignalPair.{SignalPair}
use Rattle.vcd_compare.specs.declared.pairs.ComparedPair.{ComparedPair}
use Rattle.vcd_compare.specs.declared.comparison.Outcome.{Outcome}
use Rattle.vcd_compare.specs.declared.comparison.Outcome.TheVariants as outcomes
use Rattle.vcd_compare.specs.declared.request.CompareRequest.{CompareRequest}
use Rattle.vcd_compare.proofs.comparing.Meanings.{contents_of}
use Rattle.vcd_compare.proofs.shared.Ranges.{same_flat}
use Rattle.vcd_compare.proofs.variables.Positions.{at_kept, at_skipped}

-- a kept variable is the signal at its position
signal_is : (state : ParseState) (k : ℕ) (d : VariableDeclaration)
    → slice_get (kept_variables state.declared) k ≡ Some d
    → signal_at (meaning state) k ≡ declared_signal state.value_changes state.tick d
signal_is state k d at =
    get_or_from_slice_get (meaning state).signals k (declared_signal state.value_changes state.tick d) no_signal
    (slice_get-map (declared_signal state.value_changes state.tick) (kept_variables state.declared) k
    ∙ ap (option_map (declared_signal state.value_changes state.tick)) at)

-- a skipped variable is the one at its position
word_is : (f : WholeFile) (k : ℕ) (d : VariableDeclaration)
    → slice_get (skipped_variables f.state.declared) (k - length (kept_variables f.state.declared)) ≡ Some d
    → word_variable_at (contents_of f) k ≡ word_variable (skipped_variables f.state.declared) f.heard d
word_is f k d at =
    let skipped = skipped_variables f.state.declared in
    let kept = kept_variables f.state.declared in
    let count : length (meaning f.state).signals ≡ length kept =
    length-map kept (declared_signal f.state.value_changes f.state.tick) in
    ap (λ n. slice_index_or (word_variables f.state f.heard) (k - n) no_word_variable) count
    ∙ get_or_from_slice_get (word_variables f.state f.heard) (k - length kept) (word_variable skipped f.heard d)
    no_word_variable
    (slice_get-map (word_variable skipped f.heard) skipped (k - length kept)
    ∙ ap (option_map (word_variable skipped f.heard)) at)

-- a signal is one that is kept
kind_is : (f : WholeFile) (k : ℕ) → is_signal_at (contents_of f) k ≡ is_kept_at f.state.declared k
kind_is f k =
    ap (nat_lt k) (length-map (kept_variables f.state.declared)
    (declared_signal f.state.value_changes f.state.tick))

module _ (bounds : Bounds) (last factor other_factor : ℕ) (f g : WholeFile) (from_first : bounds.first ≤ last)
    (factor_is : factor ≡ factor_in (meaning f.state) (meaning g.state) (meaning f.state))
    (other_factor_is : other_factor ≡ factor_in (meaning f.state) (meaning g.state) (meaning g.state)) where
  abbrev a : ComparedContents
  a = contents_of f

  abbrev b : ComparedContents
  b = contents_of g

  abbrev window : TickRange
  window = ticks_between bounds.first last

  -- what is told of the variables at two positions
  abbrev pub told_at : ℕ × ℕ → ComparedPair
  told_at p = pair_told bounds.tolerance window a b p.0 p.1

  module _ (k j : ℕ) (d e : VariableDeclaration) (at : slice_get (all_variables f.state.declared) k ≡ Some d)
      (at_other : slice_get (all_variables g.state.declared) j ≡ Some e) where
    abbrev IsTold : VariableDifferences → Option ℕ → Type 0
    IsTold ds short = (ds ≡ differences_told bounds.tolerance window a b k j)
        × (short ≡ short_run_told bounds.tolerance window a b k j)

    letters_told : (p : WavePair (List Bit)) (ds : Differences (List Bit)) (short : Option ℕ)
        → is_kept_at f.state.declared k ≡ true → is_kept_at g.state.declared j ≡ true
        → IsComparedUpTo same_letters bounds last (wave_of factor f.state d) (wave_of other_factor g.state e) p
        → AreToldOf same_letters bounds last p ds short → IsTold (by_letters ds) short
    letters_told p ds short kept other_kept up_to told =
        let within : p.tick ≤ last = omega (arith, up_to.within, from_first) in
        let found = told (wave_of factor f.state d) (wave_of other_factor g.state e) within up_to.found up_to.a
        up_to.b in
        let wave : wave_of factor f.state d ≡ letters_in a b a k =
        ap₂ wave_by_tick factor_is (sym (signal_is f.state k d (at_kept f.state.declared k d at kept))) in
        let other : wave_of other_factor g.state e ≡ letters_in a b b j =
        ap₂ wave_by_tick other_factor_is
        (sym (signal_is g.state j e (at_kept g.state.declared j e at_other other_kept))) in
        let kind : is_signal_at a k ≡ true = kind_is f k ∙ kept in (
          ap by_letters (found.0 ∙ ap₂ (λ x y. compared same_letters bounds.tolerance x y window) wave other)
              ∙ sym (cond-true (is_signal_at a k)
              (by_letters (compared same_letters bounds.tolerance (letters_in a b a k) (letters_in a b b j) window))
              (by_words (compared bytes_eq bounds.tolerance (words_in a b a k) (words_in a b b j) window)) kind),
          found.1 ∙ ap₂ (λ x y. short_run same_letters bounds.tolerance x y window) wave other
              ∙ sym (cond-true (is_signal_at a k)
              (short_run same_letters bounds.tolerance (letters_in a b a k) (letters_in a b b j) window)
              (short_run bytes_eq bounds.tolerance (words_in a b a k) (words_in a b b j) window) kind),
        )

    words_told : (p : WavePair (List ℕ)) (ds : Differences (List ℕ)) (short : Option ℕ)
        → is_kept_at f.state.declared k ≡ false → is_kept_at g.state.declared j ≡ false
        → IsComparedUpTo bytes_eq bounds last (word_wave_of factor f d) (word_wave_of other_factor g e) p
        → AreToldOf bytes_eq bounds last p ds short → IsTold (by_words ds) short
    words_told p ds short past other_past up_to told =
        let within : p.tick ≤ last = omega (arith, up_to.within, from_first) in
        let found = told (word_wave_of factor f d) (word_wave_of other_factor g e) within up_to.found up_to.a
        up_to.b in
        let wave : word_wave_of factor f d ≡ words_in a b a k =
        ap₂ word_by_tick factor_is (sym (word_is f k d (at_skipped f.state.declared k d at past))) in
        let other : word_wave_of other_factor g e ≡ words_in a b b j =
        ap₂ word_by_tick other_factor_is
        (sym (word_is g j e (at_skipped g.state.declared j e at_other other_past))) in
        let kind : is_signal_at a k ≡ false = kind_is f k ∙ past in (
          ap by_words (found.0 ∙ ap₂ (λ x y. compared bytes_eq bounds.tolerance x y window) wave other)
              ∙ sym (cond-false (is_signal_at a k)
              (by_letters (compared same_letters bounds.tolerance (letters_in a b a k) (letters_in a b b j) window))
              (by_words (compared bytes_eq bounds.tolerance (words_in a b a k) (words_in a b b j) window)) kind),
          found.1 ∙ ap₂ (λ x y. short_run bytes_eq bounds.tolerance x y window) wave other
              ∙ sym (cond-false (is_signal_at a k)
              (short_run same_letters bounds.tolerance (letters_in a b a k) (letters_in a b b j) window)
              (short_run bytes_eq bounds.tolerance (words_in a b a k) (words_in a b b j) window) kind),
        )

    waves_told : (old new : PairWaves) (ds : VariableDifferences) (short : Option ℕ) (width : ℕ)
        → AreBegun bounds (is_kept_at f.state.declared k) (is_kept_at g.state.declared j) d e width old
        → are_letters new ≡ are_letters old → AreComparedUpTo bounds last factor other_factor f g d e new
        → AreToldOfWaves bounds last new ds short → IsTold ds short
    waves_told (letters o) (letters p) (by_letters ds) short width begun kind up_to told =
        letters_told p ds short begun.0 begun.1 up_to told
    waves_told (words o) (words p) (by_words ds) short width begun kind up_to told =
        words_told p ds short begun.0 begun.1 up_to told
    waves_told (letters o) (letters p) (by_words ds) short width begun kind up_to told = absurd told
    waves_told (words o) (words p) (by_letters ds) short width begun kind up_to told = absurd told
    waves_told (letters o) (words p) ds short width begun kind up_to told =
        absurd (let no : false ≡ true = kind in cc)
    waves_told (words o) (letters p) ds short width begun kind up_to told =
        absurd (let no : true ≡ false = kind in cc)

  abbrev IsPlanned : SignalPair → Type 0
  IsPlanned = IsPlannedPair bounds f.state.declared g.state.declared

  one_told : (old new : SignalPair) (told : ComparedPair) → IsPlanned old
      → IsWalkedPair bounds last factor other_factor f g old new → IsToldOf bounds last new told
      → told ≡ told_at (pair_positions old)
  one_told old new told planned walked is =
      let found = waves_told old.first old.second planned.own planned.partner planned.at_first planned.at_second
      old.waves new.waves told.differences told.short_run old.width planned.begun walked.kind
      (walked.compared planned.own planned.partner planned.at_first planned.at_second) is.waves in
      let first : told.first ≡ old.first = is.first ∙ ap (λ (p : SignalPair). p.first) walked.others in
      let second : told.second ≡ old.second = is.second ∙ ap (λ (p : SignalPair). p.second) walked.others in
      λ i. record {
        first = first i;
        second = second i;
        differences = found.0 i;
        short_run = found.1 i;
      }

  all_told : (olds news : List SignalPair) (told : List ComparedPair)
      → ArePlanned bounds f.state.declared g.state.declared olds
      → AreWalked bounds last factor other_factor f g olds news → AreTold bounds last news told
      → told ≡ map told_at (map pair_positions olds)
  all_told [] [] [] planned walked are = refl
  all_told (o ∷ os) (n ∷ ns) (p ∷ ps) planned walked are =
      ap₂ (λ x xs. x ∷ xs)
      (one_told o n p (All-head IsPlanned o os planned) walked.0 are.0)
      (all_told os ns ps (All-tail IsPlanned o os planned) walked.1 are.1)
  all_told [] [] (p ∷ ps) planned walked are = absurd are
  all_told [] (n ∷ ns) told planned walked are = absurd walked
  all_told (o ∷ os) [] told planned walked are = absurd walked
  all_told (o ∷ os) (n ∷ ns) [] planned walked are = absurd are

  -- ---- by outcomes

  told_by : (k : ℕ) (o : Outcome) → map told_at (positions_of k o)
      ≡ pairs_told bounds.tolerance window a b k o
  told_by k (outcomes.Compared j) = refl
  told_by k outcomes.NotAsked = refl
  told_by k outcomes.NoPartner = refl
  told_by k (outcomes.OtherWidth j) = refl

  map_flat : (h : ℕ → List (ℕ × ℕ)) (ks : List ℕ) → map told_at (flat_map h ks) ≡ flat_map (λ k. map told_at (h k)) ks
  map_flat h [] = refl
  map_flat h (k ∷ ks) =
      map-append told_at (h k) (flat_map h ks) ∙ ap (λ l. map told_at (h k) ++ l) (map_flat h ks)

  module _ (r : CompareRequest) where
    abbrev outcome : ℕ → Outcome
    outcome = outcome_at r (with_all a) (with_all b)

    abbrev all_outcomes : List Outcome
    all_outcomes = outcomes_of r (with_all a) (with_all b)

    abbrev count : ℕ
    count = length (with_all a).signals

    by_outcome : map told_at (compared_positions (length all_outcomes) all_outcomes)
        ≡ flat_map (λ k. pairs_told bounds.tolerance window a b k (outcome k)) (range_with_len 0 count)
    by_outcome =
        map_flat _ (range_with_len 0 (length all_outcomes))
        ∙ ap (λ n. flat_map (λ k. map told_at (positions_of k (slice_index_or all_outcomes k outcomes.NotAsked)))
        (range_with_len 0 n)) (length-map-range_with_len outcome 0 count)
        ∙ same_flat _ _ 0 count (λ k from to.
        ap (λ o. map told_at (positions_of k o))
        (get_or-map-range_with_len outcome 0 count k k outcomes.NotAsked (omega arith) (omega arith))
        ∙ told_by k (outcome k))

    pub told_are : (olds news : List SignalPair) (told : List ComparedPair) (os : List Outcome)
        → ArePlanned bounds f.state.declared g.state.declared olds
        → AreWalked bounds last factor other_factor f g olds news → AreTold bounds last news told
        → os ≡ all_outcomes → map pair_positions olds ≡ compared_positions (length os) os
        → told ≡ flat_map (λ k. pairs_told bounds.tolerance window a b k (outcome k)) (range_with_len 0 count)
    told_are olds news told os planned walked are is positions =
        all_told olds news told planned walked are
        ∙ ap (map told_at) (positions ∙ ap (λ (l : List Outcome). compared_positions (length l) l) is)
        ∙ by_outcome
