use Rattle.std.proofs.Common.{◌<◌, length, sym, ◌∙◌, rules}
use Rattle.vcd_decode.proofs.shared.UartSteps.{fall_open, fall_begins, fall_ends, no_fall}
use Rattle.vcd_decode.proofs.uart_frames.samples.zero_start.Goals as goal

pub loop-letter-preserved : goal.loop-letter-preserved
loop-letter-preserved c =
    let some : 0 < length c.loop-letter.falls.items = search rules in
    let left = fall_ends c.args.setup.now c.args.letter c.args.through c.loop-letter.falls.items c.index-fall.result.now
    c.pop_front-fall.new.self.items some c.index-fall.ensures (sym c.is_sampled.ensures ∙ c.if-not-is_sampled.false)
    (sym c.is_zero.ensures ∙ c.if-is_zero.false) c.pop_front-fall.ensures.rest in
    (left.0 ∙ c.loop-letter.invariant.0, left.1 ∙ c.loop-letter.invariant.1)

pub returns-then-not-is_sampled : goal.returns-then-not-is_sampled
returns-then-not-is_sampled c =
    let some : 0 < length c.loop-letter.falls.items = search rules in
    let left = fall_open c.args.setup.now c.args.letter c.args.through c.loop-letter.falls.items c.index-fall.result.now
    some c.index-fall.ensures (sym c.is_sampled.ensures ∙ c.if-not-is_sampled.true) in
    record { found = sym left.0 ∙ c.loop-letter.invariant.0; left = sym left.1 ∙ c.loop-letter.invariant.1 }

pub returns-then-is_zero : goal.returns-then-is_zero
returns-then-is_zero c =
    let some : 0 < length c.loop-letter.falls.items = search rules in
    let left = fall_begins c.args.setup.now c.args.letter c.args.through c.loop-letter.falls.items
    c.index-fall.result.now some c.index-fall.ensures (sym c.is_sampled.ensures ∙ c.if-not-is_sampled.false)
    (sym c.is_zero.ensures ∙ c.if-is_zero.true) in
    record {
      found = sym left.0 ∙ c.loop-letter.invariant.0;
      left = c.clear.ensures.items ∙ sym left.1 ∙ c.loop-letter.invariant.1;
    }

pub returns : goal.returns
returns c =
    let left = no_fall c.args.setup.now c.args.letter c.args.through c.loop-letter.falls.items (search rules) in
    record { found = sym left.0 ∙ c.loop-letter.invariant.0; left = sym left.1 ∙ c.loop-letter.invariant.1 }
