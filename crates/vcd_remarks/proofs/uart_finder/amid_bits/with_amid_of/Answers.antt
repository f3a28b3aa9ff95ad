use Rattle.std.proofs.Common.{◌≤◌, ◌<◌, length, ◌∙◌, arith, rules}
use Rattle.vcd_remarks.specs.UartEdges.{is_amid_bit_of}
use Rattle.vcd_remarks.proofs.uart_finder.HeldTicks.{one_noted, all_noted}
use Rattle.vcd_remarks.proofs.uart_finder.amid_bits.with_amid_of.Goals as goal

pub loop-index-preserved : goal.loop-index-preserved
loop-index-preserved c =
    let within : c.loop-index.index < length c.args.held.now.items = search (rules, arith) in
    one_noted (λ t. is_amid_bit_of c.args.setup.now t c.args.frame) c.args.held.now.items c.loop-index.index
    c.loop-index.found c.with_tick_if-found.result c.index-tick.result.now c.is_amid_bit_of.result within
    c.index-tick.ensures c.is_amid_bit_of.ensures c.with_tick_if-found.ensures ∙ c.loop-index.invariant

pub returns : goal.returns
returns c =
    let past : length c.args.held.now.items ≤ c.loop-index.index = search (rules, arith) in
    all_noted (λ t. is_amid_bit_of c.args.setup.now t c.args.frame) c.args.held.now.items c.loop-index.index
    c.loop-index.found past ∙ c.loop-index.invariant
