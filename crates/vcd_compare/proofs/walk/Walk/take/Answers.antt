use Rattle.std.proofs.Common.{sym, ap, subst, ◌∙◌}
use Rattle.vcd_compare.specs.inside.Side.{at_hand}
use Rattle.vcd_compare.specs.inside.WalkSteps.{IsWalkAt, IsNextChange, IsGiven}
use Rattle.vcd_compare.specs.declared.pairs.Which.TheVariants.{First, Second}
use Rattle.vcd_compare.proofs.walk.Taken.{first_taken, second_taken, some_first}
use Rattle.vcd_compare.proofs.walk.Walk.take.Goals as goal

pub returns-in_ok-give_change-in-First-clause-at : goal.returns-in_ok-give_change-in-First-clause-at
returns-in_ok-give_change-in-First-clause-at c coming other left other_left s t start most at next =
    let old = c.args.self.now in
    let tick = c.args.tick in
    let pairs = c.give_change.new.pairs in
    let own : IsNextChange most First tick old = subst (λ w. IsNextChange most w tick old) c.in-First.is next in
    let (h, rest, was) = some_first old.first.factor tick (at_hand old.first) own.of in
    let state = at.first.on.later in
    subst (λ side. IsWalkAt most coming other left other_left s t start
    (record { first = side; second = old.second; pairs = pairs })) (sym c.take.ensures.others)
    (first_taken coming other left other_left s t start old most tick c.take.new.self.taken pairs h rest at own was
    (sym (ap at_hand c.take.ensures.others) ∙ c.take.ensures.at_hand h rest was)
    (subst (λ w. IsGiven state w tick h old.pairs pairs) c.in-First.is
    (c.in_ok-give_change-in-First.ensures state h rest at.first.on.at.at was)))

pub returns-in_ok-give_change-in-Second-clause-at : goal.returns-in_ok-give_change-in-Second-clause-at
returns-in_ok-give_change-in-Second-clause-at c coming other left other_left s t start most at next =
    let old = c.args.self.now in
    let tick = c.args.tick in
    let pairs = c.give_change-in-Second.new.pairs in
    let own : IsNextChange most Second tick old = subst (λ w. IsNextChange most w tick old) c.in-Second.is next in
    let (h, rest, was) = some_first old.second.factor tick (at_hand old.second) own.of in
    let state = at.second.on.later in
    subst (λ side. IsWalkAt most coming other left other_left s t start
    (record { first = old.first; second = side; pairs = pairs })) (sym c.take-in-Second.ensures.others)
    (second_taken coming other left other_left s t start old most tick c.take-in-Second.new.self.taken pairs h rest at
    own was (sym (ap at_hand c.take-in-Second.ensures.others) ∙ c.take-in-Second.ensures.at_hand h rest was)
    (subst (λ w. IsGiven state w tick h old.pairs pairs) c.in-Second.is
    (c.in_ok-give_change-in-Second.ensures state h rest at.second.on.at.at was)))
