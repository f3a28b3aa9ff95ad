-- Each pattern so far is met.
use Rattle.std.proofs.Common.{◌≡◌, ℕ, List, false, map, not, take}
use Rattle.std.specs.List.{list_any}
use Rattle.vcd_part.specs.Pattern.{meets}
use Rattle.vcd_part.proofs.patterns.first_unmet.Given as goal

abbrev pub invariant-loop-index : goal.invariant-loop-index
invariant-loop-index l = (names : List (List ℕ))
    → l.met ≡ map (λ p. list_any (meets p) names) (map (λ p. p.now) l.patterns)
    → list_any (λ p. not (list_any (meets p) names)) (map (λ p. p.now) (take l.index l.patterns)) ≡ false
