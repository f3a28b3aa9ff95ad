use Rattle.std.proofs.Common.{◌+◌, arith}
use Rattle.std.proofs.lemmas.Bool.Decides.{nat_tests}
use Rattle.vcd_amend.proofs.retimed.Ticks.{tick_after_cut}
use Rattle.vcd_amend.proofs.cut_ticks.ticks_through.Goals as goal

pub returns-then-found-cut-clause-goes_on : goal.returns-then-found-cut-clause-goes_on
returns-then-found-cut-clause-goes_on c = λ more few passed cut tick.
    let from = c.args.cut.from in
    let to = c.args.cut.to in
    let t = c.args.found.tick in
    let here = tick_after_cut from to t c.requires in
    let there = tick_after_cut from to (t + more) c.requires in
    let early = c.if-found-cut.true in
    let left = c.if-found.false in
    let bound = c.min.ensures in
    (grind (arith, nat_tests), grind (arith, nat_tests))

pub returns-then-found-cut-2-clause-goes_on : goal.returns-then-found-cut-2-clause-goes_on
returns-then-found-cut-2-clause-goes_on c = λ more few passed cut tick.
    let from = c.args.cut.from in
    let to = c.args.cut.to in
    let t = c.args.found.tick in
    let here = tick_after_cut from to t c.requires in
    let there = tick_after_cut from to (t + more) c.requires in
    let late = c.if-found-cut.false in
    let within = c.if-found-cut-2.true in
    let left = c.if-found.false in
    let bound = c.min-then-found-cut-2.ensures in
    (grind (arith, nat_tests), grind (arith, nat_tests))

pub returns-clause-goes_on : goal.returns-clause-goes_on
returns-clause-goes_on c = λ more few passed cut tick.
    let from = c.args.cut.from in
    let to = c.args.cut.to in
    let t = c.args.found.tick in
    let here = tick_after_cut from to t c.requires in
    let there = tick_after_cut from to (t + more) c.requires in
    let late = c.if-found-cut.false in
    let past = c.if-found-cut-2.false in
    let left = c.if-found.false in
    (grind (arith, nat_tests), grind (arith, nat_tests))
