-- What is told of two files that were read to their ends is their comparison.
use Rattle.std.proofs.Common.{◌≡◌, ℕ, ◌-◌, ◌*◌, ◌^◌, ◌<◌, ◌≤◌, min, List, ◌++◌, length, refl, sym, ap, ap₂, ◌∙◌, subst}
use Rattle.std.proofs.Common.{arith, Option, Some, None}
use Rattle.std.specs.Prelude.{Result, Ok, Err, IfSome, IsTrue, option_map}
use Rattle.std.specs.Option.{unwrap_or}
use Rattle.std.specs.List.{flat_map, range_with_len}
use Rattle.vcd_core.specs.Contents.{Contents}
use Rattle.vcd_core.specs.Devices.{DeviceEnd}
use Rattle.vcd_core.specs.declared.capture.TheConstants.{END_LIMIT}
use Rattle.vcd_core.specs.Sound.{IsSound}
use Rattle.vcd_text.specs.Grammar.{ParseState}
use Rattle.vcd_text.specs.inside.reading.ChangeStream.{IsStreamAt}
use Rattle.vcd_text.specs.declared.reading.choice.TickRange.{TickRange}
use Rattle.vcd_text.proofs.shared.HeardMeaning.{declarations_stay}
use Rattle.vcd_part.specs.Requests.{bounded_tick}
use Rattle.vcd_part.specs.Times.{ticks_of}
use Rattle.vcd_compare.specs.Captures.{outcome_at}
use Rattle.vcd_compare.specs.Comparisons.{common_timescale, factor_in, common_end, bounds_between, bounds_unless}
use Rattle.vcd_compare.specs.Comparisons.{decide}
use Rattle.vcd_compare.specs.Comparisons.{pairs_told, has_other_end, IsComparisonOf, IsCompareFault}
use Rattle.vcd_compare.specs.Comparisons.{request_refused}
use Rattle.vcd_compare.specs.Variables.{ComparedContents, with_all}
use Rattle.vcd_compare.specs.inside.Comparing.{IsReadWhole}
use Rattle.vcd_compare.specs.inside.Pairs.{AreTold}
use Rattle.vcd_compare.specs.inside.Planning.{HasDeclared, IsPlanOf, AllComparable, ArePairsOf}
use Rattle.vcd_compare.specs.inside.Side.{at_hand}
use Rattle.vcd_compare.specs.inside.Times.{scale_between, are_apart}
use Rattle.vcd_compare.specs.inside.Walk.{ArePlanned, AreWalked, WholeFile}
use Rattle.vcd_compare.specs.declared.comparing.Prepared.{Prepared}
use Rattle.vcd_compare.specs.declared.pairs.ComparedPair.{ComparedPair}
use Rattle.vcd_compare.specs.declared.comparison.Comparison.{Comparison}
use Rattle.vcd_compare.specs.declared.comparison.CompareError.TheVariants as errors
use Rattle.vcd_compare.specs.declared.request.CompareRequest.{CompareRequest}
use Rattle.vcd_compare.specs.declared.request.CompareRefusal.{CompareRefusal}
use Rattle.vcd_compare.specs.declared.timescales.Scale.{Scale}
use Rattle.vcd_compare.specs.declared.walk.Walk.{Walk}
use Rattle.vcd_compare.specs.declared.wave_pair.Bounds.{Bounds}
use Rattle.vcd_compare.specs.LeftOut.{left_out_of}
use Rattle.vcd_compare.proofs.left_out.Counted.{counted_whole}
use Rattle.vcd_compare.proofs.comparing.Meanings.{contents_of, is_meant, means_sound, has_declared}
use Rattle.vcd_compare.proofs.comparing.Scales.{AreFactors, factors_are, common_is_small}
use Rattle.vcd_compare.proofs.comparing.ToldPairs.{told_are}
use Rattle.vcd_compare.proofs.comparing.Widths.{all_comparable}
use Rattle.vcd_compare.proofs.comparing.Windows.{IsDecided, decided, same_apart}

-- the lesser end of two files, as the code has it
abbrev pub lesser_end : Prepared → (s t : ParseState) → ℕ
lesser_end p s t = min (s.tick * p.scale.first) (t.tick * p.scale.second)

-- what a result of the decision is, by the times of the request
abbrev pub Decides : Prepared → (s t : ParseState) → Result (ℕ × TickRange) CompareRefusal → Type 0
Decides p s t result = (n first last : Option ℕ) → bounded_tick (lesser_end p s t) < 2 ^ 64 - 1
    → p.ticks.tolerance ≡ option_map bounded_tick n → p.ticks.first ≡ option_map bounded_tick first
    → p.ticks.last ≡ option_map bounded_tick last
    → result ≡ bounds_unless p.plan.unmet_pattern p.plan.unmet_map
    (bounds_between (bounded_tick (lesser_end p s t)) n first last)

-- the same by the end as the code has it
pub decides_by : (p : Prepared) (s t : ParseState) (end : ℕ) (result : Result (ℕ × TickRange) CompareRefusal)
    → end ≡ bounded_tick (lesser_end p s t)
    → ((n first last : Option ℕ) → end < 2 ^ 64 - 1
    → p.ticks.tolerance ≡ option_map bounded_tick n → p.ticks.first ≡ option_map bounded_tick first
    → p.ticks.last ≡ option_map bounded_tick last
    → result ≡ bounds_unless p.plan.unmet_pattern p.plan.unmet_map (bounds_between end n first last))
    → Decides p s t result
decides_by p s t end result is given =
    subst (λ e. (n first last : Option ℕ) → e < 2 ^ 64 - 1
    → p.ticks.tolerance ≡ option_map bounded_tick n → p.ticks.first ≡ option_map bounded_tick first
    → p.ticks.last ≡ option_map bounded_tick last
    → result ≡ bounds_unless p.plan.unmet_pattern p.plan.unmet_map (bounds_between e n first last)) is given

-- the comparison is made of these
pub record Concludes (p : Prepared) (w : Walk) (c : Comparison) : Type 0 where
  pub first_stream : c.first.stream ≡ w.first.stream
  pub second_stream : c.second.stream ≡ w.second.stream
  pub first_factor : c.first.factor ≡ p.scale.first
  pub second_factor : c.second.factor ≡ p.scale.second
  pub first_left_out : c.first.left_out ≡ w.first.left_out
  pub second_left_out : c.second.left_out ≡ w.second.left_out
  pub timescale : c.timescale ≡ p.scale.timescale
  pub decides : (s t : ParseState) → IsStreamAt w.first.stream s → IsStreamAt w.second.stream t
      → Decides p s t (Ok (c.tolerance, c.window))
  pub other_end : (s t : ParseState) → IsStreamAt w.first.stream s → IsStreamAt w.second.stream t
      → c.has_other_end
      ≡ are_apart c.tolerance p.ticks.last (s.tick * p.scale.first) (t.tick * p.scale.second)
  pub outcomes : c.outcomes.items ≡ p.plan.outcomes.items
  pub compared : c.window.last < 2 ^ 64 - 1
      → AreTold w.pairs.bounds c.window.last w.pairs.all.items c.compared.items
  pub only_in_second : c.only_in_second.items ≡ p.plan.only_in_second.items

module _ (r : CompareRequest) (file text : List ℕ) (p : Prepared) (w : Walk)
    (x : IsReadWhole r (Some file) (Some text) p w) where
  abbrev s : ParseState
  s = x.walked.state

  abbrev t : ParseState
  t = x.walked.other_state

  -- both files as they were heard, what they mean, and the same with all variables as signals
  abbrev own_file : WholeFile
  own_file = record { state = s; heard = at_hand x.start.first ++ x.walked.more }

  abbrev other_file : WholeFile
  other_file = record { state = t; heard = at_hand x.start.second ++ x.walked.other_more }

  abbrev pub own : ComparedContents
  own = contents_of own_file

  abbrev pub partner : ComparedContents
  partner = contents_of other_file

  abbrev pub a : Contents
  a = with_all own

  abbrev pub b : Contents
  b = with_all partner

  stays : IsTrue s.in_body × (s.declared ≡ x.s.declared) × (s.timescale ≡ x.s.timescale)
  stays = declarations_stay x.s s x.walked.more x.walked.heard x.declared

  other_stays : IsTrue t.in_body × (t.declared ≡ x.t.declared) × (t.timescale ≡ x.t.timescale)
  other_stays = declarations_stay x.t t x.walked.other_more x.walked.other_heard x.other_declared

  sound : IsSound own.meant
  sound = means_sound file s _ x.walked.whole.1

  other_sound : IsSound partner.meant
  other_sound = means_sound text t _ x.walked.other_whole.1

  -- ---- times

  scale_is : p.scale ≡ scale_between a.timescale b.timescale
  scale_is = x.prepared.scale ∙ ap₂ scale_between (sym stays.2) (sym other_stays.2)

  factors : AreFactors (factor_in a b a) (factor_in a b b)
  factors = factors_are a.timescale b.timescale sound.timescale other_sound.timescale

  factor_is : p.scale.first ≡ factor_in a b a
  factor_is = ap (λ (c : Scale). c.first) scale_is ∙ omega (arith, factors.first.1)

  other_factor_is : p.scale.second ≡ factor_in a b b
  other_factor_is = ap (λ (c : Scale). c.second) scale_is ∙ omega (arith, factors.second.1)

  timescale_is : p.scale.timescale ≡ common_timescale a b
  timescale_is = ap (λ (c : Scale). c.timescale) scale_is

  end_is : lesser_end p s t ≡ common_end a b
  end_is = ap₂ (λ f g. min (s.tick * f) (t.tick * g)) factor_is other_factor_is

  end_small : common_end a b ≤ END_LIMIT
  end_small = common_is_small s.tick t.tick (factor_in a b a) (factor_in a b b) factors sound.end other_sound.end

  bounded_end : bounded_tick (lesser_end p s t) ≡ common_end a b
  bounded_end = ap bounded_tick end_is ∙ omega (arith, end_small)

  tolerance_is : p.ticks.tolerance ≡ option_map bounded_tick (ticks_of (common_timescale a b) r.tolerance)
  tolerance_is = x.prepared.ticks.tolerance ∙ ap (λ c. option_map bounded_tick (ticks_of c r.tolerance)) timescale_is

  first_is : p.ticks.first ≡ option_map bounded_tick (ticks_of (common_timescale a b) r.from)
  first_is = x.prepared.ticks.first ∙ ap (λ c. option_map bounded_tick (ticks_of c r.from)) timescale_is

  last_is : p.ticks.last ≡ option_map bounded_tick (ticks_of (common_timescale a b) r.to)
  last_is = x.prepared.ticks.last ∙ ap (λ c. option_map bounded_tick (ticks_of c r.to)) timescale_is

  -- ---- the plan

  declares : HasDeclared x.s a
  declares = has_declared own_file x.s stays.1

  other_declares : HasDeclared x.t b
  other_declares = has_declared other_file x.t other_stays.1

  plan : IsPlanOf r a b p.plan
  plan = x.prepared.plan a b declares other_declares

  pub decision : (result : Result (ℕ × TickRange) CompareRefusal) → Decides p s t result → result ≡ decide r a b
  unfolding decide
  decision result decides =
      decides _ _ _ (omega (arith, bounded_end, end_small)) tolerance_is first_is last_is
      ∙ ap (λ e. bounds_unless p.plan.unmet_pattern p.plan.unmet_map (bounds_between e
      (ticks_of (common_timescale a b) r.tolerance) (ticks_of (common_timescale a b) r.from)
      (ticks_of (common_timescale a b) r.to))) bounded_end
      ∙ ap₂ (λ u v. bounds_unless u v (bounds_between (common_end a b)
      (ticks_of (common_timescale a b) r.tolerance) (ticks_of (common_timescale a b) r.from)
      (ticks_of (common_timescale a b) r.to))) plan.unmet_pattern plan.unmet_map

  pub found : (tolerance : ℕ) (window : TickRange) → decide r a b ≡ Ok (tolerance, window)
      → IsDecided (common_end a b) (ticks_of (common_timescale a b) r.tolerance)
      (ticks_of (common_timescale a b) r.from) (ticks_of (common_timescale a b) r.to) tolerance window
  unfolding decide
  found tolerance window is = decided _ _ (common_end a b) _ _ _ tolerance window is

  -- ---- the pairs

  comparable : AllComparable x.s.declared x.t.declared p.plan.outcomes.items
  comparable =
      subst (AllComparable x.s.declared x.t.declared) (sym plan.outcomes)
      (all_comparable r a b x.s x.t declares other_declares)

  pairs : ArePairsOf x.start.pairs.bounds x.s.declared x.t.declared x.start.pairs
  pairs = x.prepared.pairs comparable

  start_factor : x.start.first.factor ≡ factor_in a b a
  start_factor = x.prepared.factor ∙ factor_is

  other_start_factor : x.start.second.factor ≡ factor_in a b b
  other_start_factor = x.prepared.other_factor ∙ other_factor_is

  walked : AreWalked x.start.pairs.bounds x.last x.start.first.factor x.start.second.factor own_file other_file
      x.start.pairs.all.items w.pairs.all.items
  walked = x.walked.walked (record {
    declared = x.declared;
    other_declared = x.other_declared;
    factor = omega (arith, start_factor, factors.first.0);
    other_factor = omega (arith, other_start_factor, factors.second.0);
    planned = pairs.planned;
    listed = pairs.listed;
  })

  planned : ArePlanned x.start.pairs.bounds s.declared t.declared x.start.pairs.all.items
  planned =
      subst (λ ds. ArePlanned x.start.pairs.bounds ds t.declared x.start.pairs.all.items) (sym stays.1)
      (subst (λ ds. ArePlanned x.start.pairs.bounds x.s.declared ds x.start.pairs.all.items)
      (sym other_stays.1) pairs.planned)

  module _ (tolerance : ℕ) (window : TickRange) (is : decide r a b ≡ Ok (tolerance, window)) where
    abbrev by : IsDecided (common_end a b) (ticks_of (common_timescale a b) r.tolerance)
        (ticks_of (common_timescale a b) r.from) (ticks_of (common_timescale a b) r.to) tolerance window
    by = found tolerance window is

    bounds_are : x.start.pairs.bounds ≡ record { tolerance = tolerance; first = window.first }
    bounds_are =
        let ends = by.ends in
        let order = by.in_order in
        let bounded : bounded_tick window.first ≡ window.first = omega (arith, ends, order, end_small) in
        let own : unwrap_or p.ticks.tolerance 0 ≡ tolerance =
        ap (λ o. unwrap_or o 0) (tolerance_is ∙ ap (option_map bounded_tick) by.tolerance_is) ∙ sym by.bounded in
        let first : unwrap_or p.ticks.first 0 ≡ window.first =
        ap (λ o. unwrap_or o 0) (first_is ∙ ap (option_map bounded_tick) by.first_is) ∙ bounded in
        x.prepared.bounds ∙ (λ i. record { tolerance = own i; first = first i })

    last_walked : x.last ≡ window.last
    last_walked =
        let most : unwrap_or p.ticks.last 0 ≡ bounded_tick by.own_last =
        ap (λ o. unwrap_or o 0) (last_is ∙ ap (option_map bounded_tick) by.last_is) in
        let end : min (s.tick * x.start.first.factor) (t.tick * x.start.second.factor) ≡ common_end a b =
        ap₂ (λ f g. min (s.tick * f) (t.tick * g)) start_factor other_start_factor in
        let ends = by.ends in
        x.walked.last_is ∙ ap₂ min most end ∙ omega (arith, ends, end_small)

    pub window_small : window.last < 2 ^ 64 - 1
    window_small = let ends = by.ends in omega (arith, ends, end_small)

    pub compared_are : (c : List ComparedPair) → AreTold w.pairs.bounds window.last w.pairs.all.items c
        → c ≡ flat_map (λ k. pairs_told tolerance window own partner k (outcome_at r a b k))
        (range_with_len 0 (length a.signals))
    compared_are c told =
        let bounds : Bounds = record { tolerance = tolerance; first = window.first } in
        told_are bounds window.last x.start.first.factor x.start.second.factor own_file other_file by.in_order
        start_factor other_start_factor r x.start.pairs.all.items w.pairs.all.items c p.plan.outcomes.items
        (subst (λ d. ArePlanned d s.declared t.declared x.start.pairs.all.items) bounds_are planned)
        (subst (λ d. AreWalked d window.last x.start.first.factor x.start.second.factor own_file other_file
        x.start.pairs.all.items w.pairs.all.items) bounds_are
        (subst (λ l. AreWalked x.start.pairs.bounds l x.start.first.factor x.start.second.factor own_file other_file
        x.start.pairs.all.items w.pairs.all.items) last_walked walked))
        (subst (λ d. AreTold d window.last w.pairs.all.items c) (x.walked.bounds ∙ bounds_are) told)
        plan.outcomes x.prepared.positions

  -- ---- the comparison

  apart_is : (tolerance : ℕ) (to : Option ℕ) → are_apart tolerance to (s.tick * p.scale.first) (t.tick * p.scale.second)
      ≡ has_other_end tolerance to own.meant partner.meant
  apart_is tolerance None = refl
  apart_is tolerance (Some last) =
      ap₂ (λ f g. are_apart tolerance (Some last) (s.tick * f) (t.tick * g)) factor_is other_factor_is

  pub is_comparison : (c : Comparison) → Concludes p w c → IsComparisonOf r file text c
  is_comparison c made =
      let is : decide r a b ≡ Ok (c.tolerance, c.window) =
      sym (decision (Ok (c.tolerance, c.window)) (made.decides s t x.walked.at x.walked.other_at)) in
      let small : min (s.tick * p.scale.first) (t.tick * p.scale.second) < 2 ^ 64 - 1 =
      omega (arith, end_is, end_small) in
      record {
        a = own;
        b = partner;
        first = record {
          meant = is_meant file own_file x.walked.whole.1;
          at_end = subst (λ m. IsStreamAt m s) (sym made.first_stream) x.walked.at;
          factor_is = made.first_factor ∙ factor_is;
          left_out = made.first_left_out ∙ counted_whole file s _ _ _ x.walked.whole x.walked.counted
              ∙ ap left_out_of x.walked.whole.1.heard_is;
        };
        second = record {
          meant = is_meant text other_file x.walked.other_whole.1;
          at_end = subst (λ m. IsStreamAt m t) (sym made.second_stream) x.walked.other_at;
          factor_is = made.second_factor ∙ other_factor_is;
          left_out = made.second_left_out ∙ counted_whole text t _ _ _ x.walked.other_whole x.walked.other_counted
              ∙ ap left_out_of x.walked.other_whole.1.heard_is;
        };
        is = record {
          timescale = made.timescale ∙ timescale_is;
          bounds = is;
          has_other_end = made.other_end s t x.walked.at x.walked.other_at
              ∙ ap (λ o. are_apart c.tolerance o (s.tick * p.scale.first) (t.tick * p.scale.second)) last_is
              ∙ same_apart c.tolerance (ticks_of (common_timescale a b) r.to) _ _ small
              ∙ apart_is c.tolerance (ticks_of (common_timescale a b) r.to);
          outcomes = made.outcomes ∙ plan.outcomes;
          compared = compared_are c.tolerance c.window is c.compared.items
              (made.compared (window_small c.tolerance c.window is));
          only_in_second = made.only_in_second ∙ plan.only_in_second;
        };
      }

  pub is_refused : (first second : DeviceEnd) (refusal : CompareRefusal)
      → ((c d : ParseState) → IsStreamAt w.first.stream c → IsStreamAt w.second.stream d → Decides p c d (Err refusal))
      → IsCompareFault r file text first second (errors.Refused refusal)
  is_refused first second refusal decides =
      request_refused own partner refusal (is_meant file own_file x.walked.whole.1)
      (is_meant text other_file x.walked.other_whole.1)
      (sym (decision (Err refusal) (decides s t x.walked.at x.walked.other_at))) refl

-- ---- whatever the sources show

pub concluded : (r : CompareRequest) (coming other : Option (List ℕ)) (p : Prepared) (w : Walk) (c : Comparison)
    → Concludes p w c → IsReadWhole r coming other p w
    → IfSome coming (λ file. IfSome other (λ text. IsComparisonOf r file text c))
concluded r None other p w c made x = tt
concluded r (Some file) None p w c made x = tt
concluded r (Some file) (Some text) p w c made x = is_comparison r file text p w x c made

pub refused : (r : CompareRequest) (coming other : Option (List ℕ)) (p : Prepared) (w : Walk)
    (first second : DeviceEnd) (refusal : CompareRefusal)
    → ((c d : ParseState) → IsStreamAt w.first.stream c → IsStreamAt w.second.stream d → Decides p c d (Err refusal))
    → IsReadWhole r coming other p w
    → IfSome coming (λ file. IfSome other (λ text. IsCompareFault r file text first second (errors.Refused refusal)))
refused r None other p w first second refusal decides x = tt
refused r (Some file) None p w first second refusal decides x = tt
refused r (Some file) (Some text) p w first second refusal decides x =
    is_refused r file text p w x first second refusal decides
