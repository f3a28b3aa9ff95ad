use Rattle.std.proofs.Common.{ℕ, ◌<◌, Some, List, length, map, get_or, ap, subst, arith}
use Rattle.std.proofs.lemmas.List.{length-map}
use Rattle.vcd_compare.specs.inside.Occurrences.{IsLastPlace}
use Rattle.vcd_compare.specs.inside.Pairs.{variable_in}
use Rattle.vcd_compare.proofs.pairs.Changes.{all_changed, one_changed}
use Rattle.vcd_compare.proofs.pairs.change_all.Goals as goal
use Rattle.vcd_compare.proofs.pairs.change_all.Goals.{else-place-all}
use Rattle.vcd_compare.proofs.pairs.change_all.Goals.{then-place-all+in_ok-change}

pub loop-at-preserved : goal.loop-at-preserved
loop-at-preserved c limit variable has last_is =
    let change = c.args.change.now in
    let old = c.args.all.now in
    let numbers : List ℕ = map (variable_in change.which) old in
    let place = c.in-Some.place in
    let (bound, within, changed, at_last) = c.loop-at.invariant limit variable has last_is in
    let last : IsLastPlace numbers bound variable (Some place) =
    subst (IsLastPlace numbers bound variable) c.in-Some.is at_last in
    let below : place < length old = omega (arith, last.0, within) in
    let before : IsLastPlace numbers place variable c.before-at.result =
    subst (λ m. IsLastPlace numbers place m c.before-at.result) last.1
    (c.before-at.ensures.before limit numbers has (omega (arith, below, length-map old (variable_in change.which)))) in
    elim c.if-place-all.branch [
      | then-place-all+in_ok-change w ↦ (
        place,
        omega (arith, below),
        one_changed c.args.bounds change.which variable change.tick change.text.now bound place old c.loop-at.all
            c.if-place-all.all (get_or c.loop-at.all place w.index-all-place.result) _ within changed last
            (ap (get_or c.loop-at.all place) w.index-all-place.is) w.in_ok-change.ensures.others
            w.in_ok-change.ensures.changed w.all-is,
        before,
      )
      | else-place-all w ↦
          let count = changed.count in
          absurd (omega (arith, below, count, w.if-place-all.false))
    ]

pub returns : goal.returns
returns c limit variable has last_is =
    let change = c.args.change.now in
    let old = c.args.all.now in
    let (bound, within, changed, at_last) = c.loop-at.invariant limit variable has last_is in
    all_changed c.args.bounds change.which variable change.tick change.text.now bound old c.loop-at.all within changed
    (subst (IsLastPlace (map (variable_in change.which) old) bound variable) c.in_default.is at_last)
