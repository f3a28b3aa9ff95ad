use Rattle.std.proofs.Common.{◌≡◌, ◌<◌, ℕ, List, [], ◌∷◌, ◌++◌, map, sym, ap, subst, ◌∙◌}
use Rattle.std.proofs.lemmas.List.{map-append}
use Rattle.vcd_compare.specs.inside.Occurrences.{HasOccurrences}
use Rattle.vcd_compare.specs.inside.Pairs.{variable_in}
use Rattle.vcd_compare.specs.inside.SignalPair.{PairContents}
use Rattle.vcd_compare.specs.declared.occurrences.Occurrences.{Occurrences}
use Rattle.vcd_compare.specs.declared.pairs.Which.{Which}
use Rattle.vcd_compare.specs.declared.pairs.Which.TheVariants.{First, Second}
use Rattle.vcd_compare.specs.declared.pairs.SignalPair.{SignalPair}
use Rattle.vcd_compare.proofs.pairs.Pairs.push.Goals as goal

-- the places of a variable more
one_more : (which : Which) (limit variable : ℕ) (old new : List SignalPair) (pair : SignalPair)
    (before after : Occurrences) → variable ≡ variable_in which pair → new ≡ old ++ pair ∷ []
    → ((n : ℕ) (numbers : List ℕ) → variable < n → HasOccurrences n numbers before
    → HasOccurrences n (numbers ++ variable ∷ []) after)
    → variable_in which pair < limit → HasOccurrences limit (map (variable_in which) old) before
    → HasOccurrences limit (map (variable_in which) new) after
one_more which limit variable old new pair before after is all push within has =
    subst (λ l. HasOccurrences limit l after)
    (ap (λ v. map (variable_in which) old ++ v ∷ []) is
    ∙ sym (ap (map (variable_in which)) all ∙ map-append (variable_in which) old (pair ∷ [])))
    (push limit (map (variable_in which) old) (subst (λ v. v < limit) (sym is) within) has)

pub returns-clause-listed : goal.returns-clause-listed
returns-clause-listed c count others is first second =
    let old = c.args.self.now.all.items in
    record {
      first = one_more First count _ old _ c.args.pair _ _ (ap (λ (p : PairContents). p.first_variable) c.pair.view_is)
          c.in_ok-push-3.ensures.items c.in_ok-push.ensures first is.first;
      second = one_more Second others _ old _ c.args.pair _ _
          (ap (λ (p : PairContents). p.second_variable) c.pair.view_is) c.in_ok-push-3.ensures.items
          c.in_ok-push-2.ensures second is.second;
    }
