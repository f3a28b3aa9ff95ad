use Rattle.std.proofs.Common.{◌≡◌, ◌+◌, [], get_or, refl, ap, ◌∙◌, arith}
use Rattle.vcd_remarks.specs.inside.RunsBelow.{count_to}
use Rattle.vcd_remarks.proofs.clock_runs.CountedBits.{one_counted}
use Rattle.vcd_remarks.proofs.clock_runs.runs_below.RunsBelow.at_power.Goals as goal

pub loop-bits-init : goal.loop-bits-init
unfolding count_to
loop-bits-init c = refl

pub loop-bits-preserved : goal.loop-bits-preserved
loop-bits-preserved c = one_counted c.args.self.now.of_bits c.loop-bits.bits _
    (omega (arith, c.saturating_add-count.ensures, c.loop-bits.invariant))

pub returns : goal.returns
returns c =
    let last : c.loop-bits.bits ≡ c.args.power + 1 = omega arith in
    let count : c.loop-bits.count ≡ count_to c.args.self.now.of_bits (c.args.power + 1) =
    c.loop-bits.invariant ∙ ap (count_to c.args.self.now.of_bits) last in
    λ i. record { count = count i; first = get_or c.args.self.now.first c.args.power [] }
