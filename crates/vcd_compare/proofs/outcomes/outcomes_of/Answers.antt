use Rattle.std.proofs.Common.{◌∙◌, ◌++◌, ◌∷◌, [], ap, sym, arith, map}
use Rattle.std.specs.List.{range_with_len}
use Rattle.std.proofs.lemmas.List.FromFn.{map-range_with_len_more}
use Rattle.vcd_compare.specs.inside.Outcomes.{outcome_in}
use Rattle.vcd_compare.proofs.outcomes.Told.{all_told}
use Rattle.vcd_compare.proofs.outcomes.outcomes_of.Goals as goal

pub loop-position-preserved : goal.loop-position-preserved
loop-position-preserved c =
    let told = outcome_in c.args.matching.now c.args.variables.now c.args.others.now in
    let n = c.loop-position.position in
    c.in_ok-push.ensures.items
    ∙ (λ i. c.loop-position.invariant i ++ c.outcome_at.ensures i ∷ [])
    ∙ sym (map-range_with_len_more told 0 n n (omega arith))

pub returns : goal.returns
returns c r a b is own other =
    let variables = c.args.variables.now in
    let others = c.args.others.now in
    c.loop-position.invariant
    ∙ ap (λ n. map (outcome_in c.args.matching.now variables others) (range_with_len 0 n)) (omega arith)
    ∙ all_told r a b c.args.matching.now is variables others own other
