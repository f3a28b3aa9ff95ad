-- What is told of each variable, by what a request says of its name.
use Rattle.std.proofs.Common.{◌≡◌, ℕ, ◌<◌, ◌==◌, ◌||◌, Bool, true, false, List, [], ◌∷◌, map, length, refl, ap, ap₂}
use Rattle.std.proofs.Common.{sym, ◌∙◌, arith, Option, Some, None, get_or, if◌then◌else◌}
use Rattle.std.specs.List.{range_with_len}
use Rattle.std.proofs.Math.ListN.{get_or-map as get_or-map-default}
use Rattle.std.proofs.lemmas.List.{get_or-map, length-map}
use Rattle.std.proofs.lemmas.List.FromFn.{get_or-map-range_with_len}
use Rattle.vcd_core.specs.Contents.{Contents, signal_at, no_signal}
use Rattle.vcd_core.specs.Names.{full_name, full_names}
use Rattle.vcd_part.specs.Requests.{texts, meets_one}
use Rattle.vcd_compare.specs.Captures.{mapped_name, mapped_names, outcome_of, outcome_at, outcomes_of}
use Rattle.vcd_compare.specs.Pairs.{partner_of}
use Rattle.vcd_compare.specs.inside.Outcomes.{HasWidths, MatchesNames, no_variable, planned_width, signal_width}
use Rattle.vcd_compare.specs.inside.Outcomes.{width_at, outcome_with, outcome_in}
use Rattle.vcd_compare.specs.declared.request.CompareRequest.{CompareRequest}
use Rattle.vcd_compare.specs.declared.matching.Matching.{Matching}
use Rattle.vcd_compare.specs.declared.variables.PlannedVariable.{PlannedVariable}
use Rattle.vcd_compare.specs.declared.comparison.Outcome.{Outcome}
use Rattle.vcd_compare.specs.declared.comparison.Outcome.TheVariants as outcomes
use Rattle.vcd_compare.proofs.shared.Ranges.{same_map}

-- ---- planned variables

pub width_is : (variables : List PlannedVariable) (c : Contents) (k : ℕ) → HasWidths variables c
    → width_at variables k ≡ (signal_at c k).width
width_is variables c k is =
    sym (get_or-map-default planned_width variables k no_variable)
    ∙ ap (λ l. get_or l k 1) is
    ∙ get_or-map-default signal_width c.signals k no_signal

pub as_many : (variables : List PlannedVariable) (c : Contents) → HasWidths variables c
    → length variables ≡ length c.signals
as_many variables c is =
    sym (length-map variables planned_width) ∙ ap (λ (l : List ℕ). length l) is ∙ length-map c.signals signal_width

-- ---- names

-- what is listed of a name
pub listed_of : {X Y : Type 0} (f : X → Y) (g : Y → Bool) (xs : List X) (k : ℕ) (d : X) (tests : List Bool)
    → tests ≡ map g (map f xs) → k < length xs → get_or tests k false ≡ g (f (get_or xs k d))
listed_of f g xs k d tests is within =
    ap (λ l. get_or l k false) is
    ∙ get_or-map g (map f xs) k (f d) false (omega (arith, length-map xs f))
    ∙ ap g (get_or-map-default f xs k d)

module _ (r : CompareRequest) (a b : Contents) (m : Matching) (is : MatchesNames r a b m) where
  abbrev meets : List ℕ → Bool
  meets = meets_one true (texts r.keep)

  partner_is : (k : ℕ) → k < length a.signals
      → get_or m.partners.items k None ≡ partner_of (mapped_names r a) (full_names b.signals) k
  partner_is k within =
      ap (λ l. get_or l k None) is.partners
      ∙ get_or-map-range_with_len (partner_of (mapped_names r a) (full_names b.signals)) 0 (length (mapped_names r a)) k
      k None (omega (arith, length-map (full_names a.signals) (mapped_name r.maps.now), length-map a.signals full_name))
      (omega arith)

  module _ (variables others : List PlannedVariable) (own : HasWidths variables a) (other : HasWidths others b) where
    with_partner : (k : ℕ) (o : Option ℕ) → outcome_with (width_at variables k) others o ≡ outcome_of a b k o
    with_partner k None = refl
    with_partner k (Some j) =
        ap₂ (λ (v w : ℕ). if v == w then outcomes.Compared j else outcomes.OtherWidth j)
        (width_is variables a k own) (width_is others b j other)

    told_is : (k : ℕ) → k < length a.signals → outcome_in m variables others k ≡ outcome_at r a b k
    told_is k within =
        ap₂ (λ (asked : Bool) (told : Outcome). if asked then told else outcomes.NotAsked)
        (ap₂ (λ (x y : Bool). x || y)
        (listed_of full_name meets a.signals k no_signal m.by_name.items is.by_name within)
        (listed_of full_name (λ n. meets (mapped_name r.maps.now n)) a.signals k no_signal m.by_mapped.items
        (is.by_mapped ∙ maps_twice (full_names a.signals)) within))
        (ap (outcome_with (width_at variables k) others) (partner_is k within)
        ∙ with_partner k (partner_of (mapped_names r a) (full_names b.signals) k))
      where
        maps_twice : (names : List (List ℕ)) → map meets (map (mapped_name r.maps.now) names)
            ≡ map (λ n. meets (mapped_name r.maps.now n)) names
        maps_twice [] = refl
        maps_twice (n ∷ names) = ap (λ l. meets (mapped_name r.maps.now n) ∷ l) (maps_twice names)

    pub all_told : map (outcome_in m variables others) (range_with_len 0 (length variables)) ≡ outcomes_of r a b
    all_told =
        ap (λ n. map (outcome_in m variables others) (range_with_len 0 n)) (as_many variables a own)
        ∙ same_map (outcome_in m variables others) (outcome_at r a b) 0 (length a.signals)
        (λ k from to. told_is k (omega arith))
