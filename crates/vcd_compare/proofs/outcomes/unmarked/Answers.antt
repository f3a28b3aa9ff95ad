use Rattle.std.proofs.Common.{◌∙◌, ◌&&◌, not, false, ap, ap₂, sym, get_or, ℕ, Bool, Vec}
use Rattle.vcd_compare.proofs.shared.Ranges.{filter_kept, filter_left}
use Rattle.vcd_compare.proofs.outcomes.unmarked.Goals as goal
use Rattle.vcd_compare.proofs.outcomes.unmarked.Goals.{then-tests-position+then-not-is_set+in_ok-push}
use Rattle.vcd_compare.proofs.outcomes.unmarked.Goals.{else-tests-position}
use Rattle.vcd_compare.proofs.outcomes.unmarked.Goals.{else-tests-position-via-then-tests-position+else-not-is_set}
use Rattle.vcd_compare.proofs.outcomes.unmarked.Goals.{else-tests-position-via-else-tests-position}

pub loop-position-preserved : goal.loop-position-preserved
loop-position-preserved c =
    let n = c.loop-position.position in
    let found = c.loop-position.found.items in
    let test : ℕ → Bool = λ k. get_or c.args.tests.now k false && not (get_or c.args.marks.now k false) in
    elim c.if-tests-position.branch [
      | then-tests-position+then-not-is_set+in_ok-push w ↦
          filter_kept test n found _ c.loop-position.invariant
          (ap₂ (λ (x y : Bool). x && not y) w.if-tests-position.true (sym w.is_set.ensures ∙ w.if-not-is_set.true))
          (ap (λ (v : Vec ℕ _). v.items) w.found-is ∙ w.in_ok-push.ensures.items)
      | else-tests-position w ↦
          ap (λ (v : Vec ℕ _). v.items) w.found-is
          ∙ filter_left test n found c.loop-position.invariant (elim w.else-tests-position.branch [
            | else-tests-position-via-then-tests-position+else-not-is_set v ↦
                ap₂ (λ (x y : Bool). x && not y) v.if-tests-position.true (sym v.is_set.ensures ∙ v.if-not-is_set.false)
            | else-tests-position-via-else-tests-position v ↦
                ap (λ (x : Bool). x && not (get_or c.args.marks.now n false)) v.if-tests-position.false
          ])
    ]
