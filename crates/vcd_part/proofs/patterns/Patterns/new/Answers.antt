-- No pattern is met yet.
use Rattle.std.proofs.Common.{◌≡◌, ◌∙◌, ap, refl, rules, ℕ, replicate, false, List, [], ◌∷◌, map}
use Rattle.std.proofs.Common.{length, Option, Some, None, Bor}
use Rattle.std.specs.Option.{unwrap_or}
use Rattle.std.specs.List.{list_any}
use Rattle.vcd_part.specs.Pattern.{meets}
use Rattle.vcd_part.specs.Requests.{texts}
use Rattle.vcd_part.proofs.patterns.Patterns.new.Goals as goal

-- no name meets a pattern
none_met : {X : Type 0} (f : X → List ℕ) (xs : List X)
    → replicate (length xs) false ≡ map (λ pattern. list_any (meets pattern) []) (map f xs)
none_met f [] = refl
none_met f (x ∷ xs) = ap (λ bs. false ∷ bs) (none_met f xs)

-- there is a note for each pattern
none_of : (patterns : Option (Bor (List (Bor (List ℕ))))) (others : Bor (List (Bor (List ℕ)))) → others.now ≡ []
    → replicate (length (unwrap_or patterns others).now) false
    ≡ map (λ pattern. list_any (meets pattern) []) (unwrap_or (texts patterns) [])
none_of None others none = rw none refl
none_of (Some patterns) others none = none_met (λ p. p.now) patterns.now

pub returns-clause-met : goal.returns-clause-met
returns-clause-met c =
    c.in_ok-met.ensures.items_if_clones_equal (λ y is. search rules)
    ∙ ap (λ ps. replicate (length ps.now) false) c.unwrap_or-count.ensures
    ∙ none_of c.args.patterns _ refl
