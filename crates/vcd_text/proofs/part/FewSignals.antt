-- Accepted declarations keep no more variables than their limit.
use Rattle.std.proofs.Common.{◌≡◌, ◌≤◌, List, [], ◌∷◌, length, refl, arith}
use Rattle.std.proofs.lemmas.Bool.{ltb-true}
use Rattle.std.proofs.lemmas.List.{length-append}
use Rattle.std.proofs.lemmas.List.Elements.{filter-append}
use Rattle.vcd_text.specs.Items.{Item}
use Rattle.vcd_text.specs.Grammar.{ParseState, AllowsAll, state_after, state_after_item, kept_variables}
use Rattle.vcd_text.proofs.shared.ItemTests.{has_declaration}

-- no more variables are kept
abbrev pub KeepsFew : ParseState → Type 0
KeepsFew c = length (kept_variables c.declared) ≤ c.limit

pub few_after : (c : ParseState) (is : List Item) → AllowsAll c is → KeepsFew c → KeepsFew (state_after c is)
few_after c [] allows few = few
few_after c (i ∷ is) (allows, rest) few = few_after (state_after_item c i) is rest
    (grind (arith, filter-append, length-append, ltb-true, has_declaration))

-- the limit stays
pub same_limit : (c : ParseState) (is : List Item) → (state_after c is).limit ≡ c.limit
same_limit c [] = refl
same_limit c (i ∷ is) = grind (arith, same_limit (state_after_item c i) is)
