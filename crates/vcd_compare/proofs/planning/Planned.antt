-- The pairs that are planned, of variables that two files declare.
use Rattle.std.proofs.Common.{◌≡◌, ℕ, zero, suc, ◌+◌, ◌<◌, List, [], ◌∷◌, ◌++◌, map, length, refl, sym, ap, ◌∙◌}
use Rattle.std.proofs.Common.{arith, get_or}
use Rattle.std.proofs.lemmas.List.{map-append, append-nil}
use Rattle.vcd_compare.specs.inside.Outcomes.{compared_positions, positions_of}
use Rattle.vcd_compare.specs.inside.Planning.{pair_positions}
use Rattle.vcd_compare.specs.declared.comparison.Outcome.{Outcome}
use Rattle.vcd_compare.specs.declared.comparison.Outcome.TheVariants as outcomes
use Rattle.vcd_compare.specs.declared.pairs.SignalPair.{SignalPair}
use Rattle.vcd_compare.proofs.shared.Ranges.{flat_more}

-- within a list the default does not count
pub same_within : (os : List Outcome) (n : ℕ) (d e : Outcome) → n < length os → get_or os n d ≡ get_or os n e
same_within [] n d e within = absurd (omega (arith, within))
same_within (o ∷ os) zero d e within = refl
same_within (o ∷ os) (suc n) d e within = same_within os n d e (omega (arith, within))

module _ (n : ℕ) (os : List Outcome) (pairs : List SignalPair)
    (before : map pair_positions pairs ≡ compared_positions n os) where
  abbrev positions_at : ℕ → List (ℕ × ℕ)
  positions_at k = positions_of k (get_or os k outcomes.NotAsked)

  -- the next variable is compared
  pub one_pair : (p : SignalPair) (new : List SignalPair) (j : ℕ) → get_or os n outcomes.NotAsked ≡ outcomes.Compared j
      → p.first ≡ n → p.second ≡ j → new ≡ pairs ++ p ∷ [] → map pair_positions new ≡ compared_positions (n + 1) os
  one_pair p new j is first second more =
      ap (map pair_positions) more
      ∙ map-append pair_positions pairs (p ∷ [])
      ∙ (λ i. before i ++ (first i, second i) ∷ [])
      ∙ ap (λ o. compared_positions n os ++ positions_of n o) (sym is)
      ∙ sym (flat_more positions_at n)

  none_of : (k : ℕ) (o : Outcome) → ((j : ℕ) → o ≡ outcomes.Compared j → ⊥) → [] ≡ positions_of k o
  none_of k (outcomes.Compared j) never = absurd (never j refl)
  none_of k outcomes.NotAsked never = refl
  none_of k outcomes.NoPartner never = refl
  none_of k (outcomes.OtherWidth j) never = refl

  -- the next variable is not
  pub no_pair : ((j : ℕ) → get_or os n outcomes.NotAsked ≡ outcomes.Compared j → ⊥)
      → map pair_positions pairs ≡ compared_positions (n + 1) os
  no_pair never =
      before
      ∙ sym (append-nil (compared_positions n os))
      ∙ ap (λ l. compared_positions n os ++ l) (none_of n (get_or os n outcomes.NotAsked) never)
      ∙ sym (flat_more positions_at n)
