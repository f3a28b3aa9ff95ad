use Rattle.std.proofs.Common.{◌≡◌, ◌∙◌, ap, ap₂, arith, false, replicate, length, List, Bool, take, drop, ◌++◌}
use Rattle.std.proofs.lemmas.List.{take-append-le, take_all}
use Rattle.vcd_compare.specs.inside.Outcomes.{all_marked, unmarked}
use Rattle.vcd_compare.proofs.outcomes.Marks.{left_are}
use Rattle.vcd_compare.proofs.outcomes.only_in_second.Goals as goal

pub returns : goal.returns
returns c r a b is =
    let all = c.in_ok-is_partner.is_partner in
    let new = c.mark_all.new.marks in
    let asked = c.as_slice-asked.ensures.value in
    let kept : take all.len (new ++ drop (length new) all.items) ≡ new =
    take-append-le all.len new (drop (length new) all.items)
    (omega (arith, c.mark_all.auto.marks, c.deref_mut.ensures.len))
    ∙ take_all all.len new (omega (arith, c.mark_all.auto.marks, c.deref_mut.ensures.len)) in
    c.in_ok-found.ensures
    ∙ ap₂ unmarked asked
    (c.deref.ensures.value ∙ kept ∙ c.mark_all.ensures
    ∙ ap₂ all_marked
    (c.deref_mut.ensures.value ∙ c.in_ok-is_partner.ensures.items_if_clones_equal (λ y e. e)
    ∙ ap (λ (l : List Bool). replicate (length l) false) asked)
    c.as_slice.ensures.value)
    ∙ left_are r a b c.args.matching.now is
