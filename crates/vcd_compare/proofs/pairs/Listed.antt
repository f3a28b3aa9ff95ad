-- The pairs that a change finds by the places of its variable.
use Rattle.std.proofs.Common.{◌≡◌, ℕ, Option, Some, List, length, map, sym, subst}
use Rattle.std.proofs.lemmas.List.{length-map}
use Rattle.vcd_compare.specs.inside.Occurrences.{IsLastPlace, HasOccurrences}
use Rattle.vcd_compare.specs.inside.Pairs.{variable_in, chosen, AreListed, ArePairsAfter}
use Rattle.vcd_compare.specs.declared.wave_pair.Bounds.{Bounds}
use Rattle.vcd_compare.specs.declared.occurrences.Occurrences.{Occurrences}
use Rattle.vcd_compare.specs.declared.pairs.Pairs.{Pairs}
use Rattle.vcd_compare.specs.declared.pairs.Which.{Which}
use Rattle.vcd_compare.specs.declared.pairs.Which.TheVariants.{First, Second}
use Rattle.vcd_compare.specs.declared.pairs.SignalPair.{SignalPair}

listed_in : (which : Which) (count others : ℕ) (pairs : Pairs) → AreListed count others pairs
    → HasOccurrences (chosen which count others) (map (variable_in which) pairs.all.items)
    (chosen which pairs.of_first pairs.of_second)
listed_in First count others pairs is = is.first
listed_in Second count others pairs is = is.second

-- the places of one of the captures
pub has_listed : (which : Which) (count others : ℕ) (pairs : Pairs) (places : Occurrences)
    → places ≡ chosen which pairs.of_first pairs.of_second → AreListed count others pairs
    → HasOccurrences (chosen which count others) (map (variable_in which) pairs.all.items) places
has_listed which count others pairs places chosen_is is =
    subst (HasOccurrences (chosen which count others) (map (variable_in which) pairs.all.items)) (sym chosen_is)
    (listed_in which count others pairs is)

-- the last place of a variable among the pairs
pub last_listed : (which : Which) (variable : ℕ) (pairs : List SignalPair) (found at : Option ℕ) → found ≡ at
    → IsLastPlace (map (variable_in which) pairs) (length (map (variable_in which) pairs)) variable found
    → IsLastPlace (map (variable_in which) pairs) (length pairs) variable at
last_listed which variable pairs found at found_is is =
    subst (λ n. IsLastPlace (map (variable_in which) pairs) n variable at) (length-map pairs (variable_in which))
    (subst (IsLastPlace (map (variable_in which) pairs) (length (map (variable_in which) pairs)) variable) found_is is)

-- pairs that were lent have changed
pub after_lent : (bounds : Bounds) (which : Which) (variable tick limit : ℕ) (text : List ℕ) (last : ℕ)
    (places : Occurrences) (old lent new : List SignalPair) → lent ≡ old
    → (HasOccurrences limit (map (variable_in which) lent) places
    → IsLastPlace (map (variable_in which) lent) (length lent) variable (Some last)
    → ArePairsAfter bounds which variable tick text lent new)
    → HasOccurrences limit (map (variable_in which) old) places
    → IsLastPlace (map (variable_in which) old) (length old) variable (Some last)
    → ArePairsAfter bounds which variable tick text old new
after_lent bounds which variable tick limit text last places old lent new lent_is after has last_is =
    subst (λ l. ArePairsAfter bounds which variable tick text l new) lent_is
    (after (subst (λ l. HasOccurrences limit (map (variable_in which) l) places) (sym lent_is) has)
    (subst (λ l. IsLastPlace (map (variable_in which) l) (length l) variable (Some last)) (sym lent_is) last_is))
