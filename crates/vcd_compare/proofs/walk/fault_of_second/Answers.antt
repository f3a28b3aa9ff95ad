use Rattle.vcd_compare.proofs.walk.Failures.{first_fails, second_fails}
use Rattle.vcd_compare.proofs.walk.fault_of_second.Goals as goal

pub returns-in-Ok : goal.returns-in-Ok
returns-in-Ok g c coming other left failed state given at refused =
    let end = c.in-Ok.ensures.ended coming state given at in
    second_fails (g.A.Source.coming c.read_rest.new.source) left (g.A.Source.has_failed c.read_rest.new.source) failed
    c.args.error c.of_second.result coming other end.later _ c.of_second.ensures end.whole refused

pub returns-in-Err : goal.returns-in-Err
returns-in-Err g c coming other left failed state given at refused =
    first_fails (g.A.Source.coming c.read_rest.new.source) left (g.A.Source.has_failed c.read_rest.new.source) failed
    c.in-Err.own c.of_first.result coming other c.of_first.ensures (c.in-Err.ensures.refused coming state given at)
