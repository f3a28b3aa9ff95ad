use Rattle.std.proofs.Common.{◌≡◌, ◌+◌, ◌-◌, ℕ, arith}
use Rattle.vcd_amend.specs.RetimedCopy.{is_cut_by}
use Rattle.vcd_amend.proofs.retimed.Ticks.{is_earlier}
use Rattle.vcd_amend.proofs.cut_ticks.CutWalk.retimed.Goals as goal

-- new ticks are no later, so this one fits
pub later-requires : goal.later-requires
later-requires c =
    let walk = c.self.inside in
    let more : ℕ = c.args.tick - walk.last in
    let within = c.is_within.ensures c.if-is_within.true in
    let goes_on = (c.self.invariant.1 more within.1).1 in
    let is : walk.last + more ≡ c.args.tick = omega (arith, within.0) in
    omega (arith, goes_on, is_earlier (is_cut_by walk.cuts.now) (walk.last + more), is, c.ranges.tick.fits)
