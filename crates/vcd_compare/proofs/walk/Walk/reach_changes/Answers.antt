use Rattle.vcd_compare.proofs.walk.Failures.{first_fails}
use Rattle.vcd_compare.proofs.walk.Reached.{first_reached, second_reached}
use Rattle.vcd_compare.proofs.walk.Walk.reach_changes.Goals as goal

pub returns-in-Err-clause-fails : goal.returns-in-Err-clause-fails
returns-in-Err-clause-fails g c most coming other s t start at =
    first_fails (g.A.Source.coming c.reach_change.new.source) (g.B.Source.coming c.args.second.now)
    (g.A.Source.has_failed c.reach_change.new.source) (g.B.Source.has_failed c.args.second.now) c.in-Err.error
    c.of_first.result coming other c.of_first.ensures
    (c.in-Err.ensures.refused coming at.first.on.later at.given at.first.on.at)

pub returns-in-Err-reach_change-clause-fails : goal.returns-in-Err-reach_change-clause-fails
returns-in-Err-reach_change-clause-fails g c most coming other s t start at =
    let reads = c.in_default.ensures.reads coming at.first.on.later at.given at.first.on.at in
    c.fault_of_second.ensures coming other _ _ reads.later at.given reads.at
    (c.in-Err-reach_change.ensures.refused other at.second.on.later at.other_given at.second.on.at)

pub returns-clause-at : goal.returns-clause-at
returns-clause-at g c most coming other s t start at =
    let reached = first_reached most coming other _ _ _ s t start c.args.self.now c.reach_change.new.self at
    c.reach_change.ensures.factor (c.in_default.ensures.reads coming at.first.on.later at.given at.first.on.at) in
    second_reached most coming other _ _ _ s t start _ c.reach_change-2.new.self reached c.reach_change-2.ensures.factor
    (c.in_default-reach_change.ensures.reads other reached.second.on.later reached.other_given reached.second.on.at)
