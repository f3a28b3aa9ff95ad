use Rattle.std.proofs.Common.{nat_le, ap, ◌∙◌, arith}
use Rattle.std.proofs.lemmas.Nat.{leading_length}
use Rattle.vcd_remarks.proofs.clock_runs.CountedBits.{least_power}
use Rattle.vcd_remarks.proofs.clock_runs.runs_below.bits_of.Goals as goal

pub returns-clause-least : goal.returns-clause-least
returns-clause-least c = λ power.
    let length = leading_length 64 c.args.ticks c.ranges.ticks.fits in
    ap (λ bits. nat_le bits power) (omega (arith, length.1))
    ∙ least_power c.args.ticks length.0 length.2 length.3 power
