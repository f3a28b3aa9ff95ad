-- The first mark that is false.
use Rattle.std.proofs.Common.{◌≡◌, ℕ, ◌+◌, Bool, not, List, [], ◌∷◌, map, length, refl, ap, ap₂, ◌∙◌, rules, tests}
use Rattle.std.proofs.Common.{if◌then◌else◌}
use Rattle.std.specs.List.{list_any, position, prefix_len}
use Rattle.std.proofs.lemmas.List.{length-map}
use Rattle.std.proofs.lemmas.Iterator.{YieldsList-from_slice}
use Rattle.std.proofs.lemmas.Iterator.Search.{position_from_yields_List}
use Rattle.vcd_part.specs.Pattern.{meets}
use Rattle.vcd_part.proofs.patterns.Patterns.unmet_position.Goals as goal

first_of : {X Y : Type 0} (f : X → Y) (p : Y → Bool) (xs : List X)
    → prefix_len (λ y. not (p y)) (map f xs) ≡ prefix_len (λ x. not (p (f x))) xs
first_of f p [] = refl
first_of f p (x ∷ xs) = rw (first_of f p xs) refl

at_image : {X Y : Type 0} (f : X → Y) (p : Y → Bool) (xs : List X) → position p (map f xs) ≡ position (λ x. p (f x)) xs
at_image f p xs = rw (first_of f p xs) (rw (length-map xs f) refl)

pub returns : goal.returns
returns c names met =
    position_from_yields_List not _ _ _ c.position.ensures.ran
    (YieldsList-from_slice c.args.self.now.met.items cc) (λ s b q k. search (rules, tests))
    ∙ ap (position not) met
    ∙ at_image (λ pattern. list_any (meets pattern) names) not _
