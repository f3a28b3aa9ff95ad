-- The variables of the second capture that are marked as partners, and those that are not.
use Rattle.std.proofs.Common.{◌≡◌, ℕ, zero, suc, ◌+◌, ◌<◌, ◌==◌, ◌&&◌, ◌||◌, not, Bool, true, false, List, [], ◌∷◌}
use Rattle.std.proofs.Common.{length, refl}
use Rattle.std.proofs.Common.{ap, ap₂, ◌∙◌, inl, inr, arith, Option, Some, None, get_or, replicate}
use Rattle.std.specs.Prelude.{is_some}
use Rattle.std.specs.List.{range_with_len, list_any, filter}
use Rattle.std.proofs.lemmas.Bool.{cases_Bool, cases_eq, eqb-true, eq-eqb}
use Rattle.std.proofs.lemmas.List.{get_or-set_same, get_or-set_other, length-set, length-map, length-replicate}
use Rattle.vcd_core.specs.Contents.{Contents, no_signal}
use Rattle.vcd_core.specs.Names.{full_name, full_names}
use Rattle.vcd_part.specs.Requests.{texts, meets_one}
use Rattle.vcd_compare.specs.Captures.{mapped_names, is_only_in_second, only_in_second}
use Rattle.vcd_compare.specs.Pairs.{partner_of, partners_of}
use Rattle.vcd_compare.specs.inside.Outcomes.{MatchesNames, marked, all_marked, unmarked}
use Rattle.vcd_compare.specs.declared.request.CompareRequest.{CompareRequest}
use Rattle.vcd_compare.specs.declared.matching.Matching.{Matching}
use Rattle.vcd_compare.proofs.outcomes.Told.{listed_of}
use Rattle.vcd_compare.proofs.pairing.Positions.{partner_within, partner_back}
use Rattle.vcd_compare.proofs.shared.Ranges.{same_filter, one_of, is_one}

-- whether a partner is the variable at a position
abbrev pub is_at : ℕ → Option ℕ → Bool
is_at k None = false
is_at k (Some j) = j == k

-- ---- marks

as_many : (marks : List Bool) (p : Option ℕ) → length (marked marks p) ≡ length marks
as_many marks None = refl
as_many marks (Some j) = length-set marks j true

none_or : (b : Bool) → b ≡ (b || false)
none_or true = refl
none_or false = refl

either : (x y z : Bool) → ((x || y) || z) ≡ (x || (y || z))
either true y z = refl
either false y z = refl

mark_at : (marks : List Bool) (p : Option ℕ) (k : ℕ) → k < length marks
    → get_or (marked marks p) k false ≡ (get_or marks k false || is_at k p)
mark_at marks None k within = none_or _
mark_at marks (Some j) k within =
    elim (cases_eq k j) [
      | inl same ↦ grind (arith, get_or-set_same)
      | inr other ↦ grind (arith, get_or-set_other)
    ]

marks_at : (marks : List Bool) (ps : List (Option ℕ)) (k : ℕ) → k < length marks
    → get_or (all_marked marks ps) k false ≡ (get_or marks k false || list_any (is_at k) ps)
marks_at marks [] k within = none_or _
marks_at marks (p ∷ ps) k within =
    marks_at (marked marks p) ps k (omega (arith, as_many marks p))
    ∙ ap (λ (b : Bool). b || list_any (is_at k) ps) (mark_at marks p k within)
    ∙ either (get_or marks k false) (is_at k p) (list_any (is_at k) ps)

unmarked_at : (n k : ℕ) → get_or (replicate n false) k false ≡ false
unmarked_at zero k = refl
unmarked_at (suc n) zero = refl
unmarked_at (suc n) (suc k) = unmarked_at n k

-- ---- partners

at_is : (k : ℕ) (o : Option ℕ) → is_at k o ≡ true → o ≡ Some k
at_is k None is = absurd (let no : false ≡ true = is in cc)
at_is k (Some j) is = ap (λ n. Some n) (eqb-true j k is)

is_at_own : (k : ℕ) (o : Option ℕ) → o ≡ Some k → is_at k o ≡ true
is_at_own k o is = ap (is_at k) is ∙ eq-eqb k k refl

module _ (names others : List (List ℕ)) (k : ℕ) (within : k < length others) where
  if_some : (o : Option ℕ) → partner_of others names k ≡ o → list_any (is_at k) (partners_of names others) ≡ is_some o
  if_some (Some i) back =
      is_one (is_at k) (partner_of names others) 0 (length names) i (omega arith)
      (inside i (partner_within others names k i back))
      (is_at_own k _ (partner_back others names k i within back))
    where
      inside : (i : ℕ) → i < length names → i < 0 + length names
      inside i less = omega arith
  if_some None none =
      elim (cases_Bool (list_any (is_at k) (partners_of names others))) [
        | inl on ↦
            let (i, inside, at) = one_of (is_at k) (partner_of names others) 0 (length names) on in
            let back : partner_of others names k ≡ Some i =
            partner_back names others i k (omega arith) (at_is k _ at) in
            absurd (cc)
        | inr off ↦ off
      ]

  pub is_partner : list_any (is_at k) (partners_of names others) ≡ is_some (partner_of others names k)
  is_partner = if_some (partner_of others names k) refl

-- ---- those that are left

module _ (r : CompareRequest) (a b : Contents) (m : Matching) (is : MatchesNames r a b m) where
  abbrev marks : List Bool
  marks = all_marked (replicate (length m.of_second.items) false) m.partners.items

  abbrev test : ℕ → Bool
  test k = get_or m.of_second.items k false && not (get_or marks k false)

  size : length m.of_second.items ≡ length b.signals
  size =
      ap (λ (l : List Bool). length l) is.of_second
      ∙ length-map (full_names b.signals) (meets_one true (texts r.keep)) ∙ length-map b.signals full_name

  mark_is : (k : ℕ) → k < length b.signals
      → get_or marks k false ≡ is_some (partner_of (full_names b.signals) (mapped_names r a) k)
  mark_is k within =
      let of_all : k < length (replicate (length m.of_second.items) false) =
      omega (arith, size, length-replicate (length m.of_second.items) false) in
      marks_at (replicate (length m.of_second.items) false) m.partners.items k of_all
      ∙ ap (λ (x : Bool). x || list_any (is_at k) m.partners.items) (unmarked_at (length m.of_second.items) k)
      ∙ ap (list_any (is_at k)) is.partners
      ∙ is_partner (mapped_names r a) (full_names b.signals) k (omega (arith, length-map b.signals full_name))

  test_is : (k : ℕ) → k < length b.signals → test k ≡ is_only_in_second r a b k
  test_is k within =
      ap₂ (λ (x y : Bool). x && not y)
      (listed_of full_name (meets_one true (texts r.keep)) b.signals k no_signal m.of_second.items is.of_second within)
      (mark_is k within)

  pub left_are : unmarked m.of_second.items marks ≡ only_in_second r a b
  left_are =
      ap (λ n. filter test (range_with_len 0 n)) size
      ∙ same_filter test (is_only_in_second r a b) 0 (length b.signals) (λ k from to. test_is k (omega arith))
