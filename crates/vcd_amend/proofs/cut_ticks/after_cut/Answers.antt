use Rattle.std.proofs.Common.{arith}
use Rattle.std.proofs.lemmas.Bool.Decides.{nat_tests}
use Rattle.vcd_amend.proofs.retimed.Ticks.{tick_after_cut}
use Rattle.vcd_amend.proofs.cut_ticks.after_cut.Goals as goal

pub returns-then-found-cut-clause-tick : goal.returns-then-found-cut-clause-tick
returns-then-found-cut-clause-tick c =
    let is = tick_after_cut c.args.cut.from c.args.cut.to c.args.found.tick c.requires in
    let early = c.if-found-cut.true in
    grind (arith, nat_tests)

pub returns-then-found-cut-2-clause-tick : goal.returns-then-found-cut-2-clause-tick
returns-then-found-cut-2-clause-tick c =
    let is = tick_after_cut c.args.cut.from c.args.cut.to c.args.found.tick c.requires in
    let late = c.if-found-cut.false in
    let within = c.if-found-cut-2.true in
    grind (arith, nat_tests)

pub returns-clause-tick : goal.returns-clause-tick
returns-clause-tick c =
    let is = tick_after_cut c.args.cut.from c.args.cut.to c.args.found.tick c.requires in
    let late = c.if-found-cut.false in
    let past = c.if-found-cut-2.false in
    grind (arith, nat_tests)
