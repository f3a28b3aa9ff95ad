use Rattle.std.proofs.Common.{◌≡◌, ◌-◌, ◌/◌, nat_lt, Bool, refl, ap, ◌∙◌, if◌then◌else◌, arith}
use Rattle.vcd_remarks.specs.ClockRuns.{count_below}
use Rattle.vcd_remarks.specs.inside.ClockRuns.{is_often_reached}
use Rattle.vcd_remarks.specs.inside.RunsBelow.{at_power}
use Rattle.vcd_remarks.proofs.clock_runs.ShortRuns.{one_below, number_is, at_most_one, at_last}
use Rattle.vcd_remarks.proofs.clock_runs.often_reached.Goals as goal

pub loop-power-init : goal.loop-power-init
unfolding count_below
loop-power-init c = record { few = omega arith; count = refl }

pub loop-power-preserved : goal.loop-power-preserved
loop-power-preserved c =
    let all = one_below (is_often_reached (at_power c.args.below.now)) c.loop-power.power in
    let test : nat_lt (c.at_power-all.result.count / 4) c.saturating_sub.result
    ≡ is_often_reached (at_power c.args.below.now) c.loop-power.power =
    ap (λ n. nat_lt (c.at_power-all.result.count / 4) n) c.saturating_sub.ensures
    ∙ (λ i. nat_lt ((c.at_power-all.ensures i).count / 4)
    ((c.at_power-all.ensures i).count - (c.at_power.ensures i).count)) in
    let one = c.from-count.ensures ∙ number_is _
    ∙ ap (λ (b : Bool). if b then 1 else 0) test in
    record { few = omega (arith, at_most_one _ _ c.from-count.ensures); count = omega (arith, all, one) }

pub returns-clause-count : goal.returns-clause-count
returns-clause-count c =
    c.loop-power.invariant.count
    ∙ at_last (is_often_reached (at_power c.args.below.now)) c.loop-power.power 64 (omega arith)
