use Rattle.std.proofs.Common.{refl}
use Rattle.vcd_compare.specs.declared.walk.Walk.{Walk}
use Rattle.vcd_compare.proofs.walk.Failures.{first_fails}
use Rattle.vcd_compare.proofs.walk.Walked.{walk_ends}
use Rattle.vcd_compare.proofs.walk.Walk.read_rests.Goals as goal

pub returns-in-Err-clause-fails : goal.returns-in-Err-clause-fails
returns-in-Err-clause-fails g c most coming other s t start at =
    c.fault_of_second.ensures coming other _ _ at.first.on.later at.given at.first.on.at
    (c.in-Err.ensures.refused other at.second.on.later at.other_given at.second.on.at)

pub returns-in-Err-read_rest-clause-fails : goal.returns-in-Err-read_rest-clause-fails
returns-in-Err-read_rest-clause-fails g c most coming other s t start at =
    first_fails (g.A.Source.coming c.read_rest-2.new.source) (g.B.Source.coming c.read_rest.new.source)
    (g.A.Source.has_failed c.read_rest-2.new.source) (g.B.Source.has_failed c.read_rest.new.source)
    c.in-Err-read_rest.error c.of_first.result coming other c.of_first.ensures
    (c.in-Err-read_rest.ensures.refused coming at.first.on.later at.given at.first.on.at)

pub returns-clause-walked : goal.returns-clause-walked
returns-clause-walked g c coming other s t start most last at over last_is =
    let old = c.args.self.now in
    let new : Walk = record {
      first = c.read_rest-2.new.self;
      second = c.read_rest.new.self;
      pairs = old.pairs;
    } in
    walk_ends most last coming other _ _ s t start old new at over last_is
    (c.in_default-read_rest.ensures.ended coming at.first.on.later at.given at.first.on.at)
    (c.in_default.ensures.ended other at.second.on.later at.other_given at.second.on.at) c.read_rest-2.ensures.factor
    c.read_rest.ensures.factor refl
