-- The patterns so far are noted, and the others not yet.
use Rattle.std.proofs.Common.{◌≡◌, ◌++◌, ◌∷◌, [], ℕ, List, map, take}
use Rattle.std.specs.List.{list_any}
use Rattle.vcd_core.specs.FullName.{name_bytes}
use Rattle.vcd_part.specs.Pattern.{meets}
use Rattle.vcd_part.proofs.patterns.MetInTurn.{met_up_to}
use Rattle.vcd_part.proofs.patterns.note_met.Given as goal

abbrev pub invariant-loop-index : goal.invariant-loop-index
invariant-loop-index l = record {
  is_met : l.is_met ≡ list_any (λ p. meets p (name_bytes l.fn.name)) (map (λ p. p.now) (take l.index l.patterns));
  met : (names : List (List ℕ))
      → l.initial.met ≡ map (λ p. list_any (meets p) names) (map (λ p. p.now) l.patterns)
      → l.met ≡ met_up_to (λ p. p.now) (λ p. list_any (meets p) (names ++ name_bytes l.fn.name ∷ []))
      (λ p. list_any (meets p) names) l.patterns l.index;
}
