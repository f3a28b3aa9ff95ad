use Rattle.std.proofs.Common.{◌<◌, length, ◌∙◌, rules}
use Rattle.vcd_remarks.proofs.uart_finder.HeldTicks.{first_after, first_given, none_after}
use Rattle.vcd_remarks.proofs.uart_finder.amid_bits.drop_through.Goals as goal

pub loop-held-preserved : goal.loop-held-preserved
loop-held-preserved c =
    let some : 0 < length c.loop-held.held.items = search rules in
    first_given c.args.from c.loop-held.held.items c.index.result.now c.pop_front-tick.new.self.items some
    c.index.ensures c.if-index-from.false c.pop_front-tick.ensures.rest ∙ c.loop-held.invariant

pub returns-then-index-from : goal.returns-then-index-from
returns-then-index-from c =
    let some : 0 < length c.loop-held.held.items = search rules in
    first_after c.args.from c.loop-held.held.items c.index.result.now some c.index.ensures c.if-index-from.true
    ∙ c.loop-held.invariant

pub returns : goal.returns
returns c = none_after c.args.from c.loop-held.held.items (search rules) ∙ c.loop-held.invariant
