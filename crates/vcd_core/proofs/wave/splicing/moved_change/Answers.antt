use Rattle.std.proofs.Common.{w64}
use Rattle.std.proofs.lemmas.Int.{to_z-of_z}
use Rattle.vcd_core.specs.Splice.{moved_change, TickFits}
use Rattle.vcd_core.proofs.shared.Splices.{tick_given, tick_is}
use Rattle.vcd_core.proofs.wave.splicing.moved_change.Goals as goal

pub unwrap-tick-requires : goal.unwrap-tick-requires
unfolding TickFits
unwrap-tick-requires c =
    tick_given c.args.change.now.tick c.args.by _ c.checked_add_signed.result (to_z-of_z w64 c.args.by c.ranges.by)
    c.requires c.checked_add_signed.ensures

pub returns : goal.returns
unfolding moved_change
returns c =
    let tick = tick_is c.args.change.now.tick c.args.by _ c.checked_add_signed.result _
    (to_z-of_z w64 c.args.by c.ranges.by) c.checked_add_signed.ensures c.unwrap-tick.ensures in
    λ i. record { tick = tick i; value = c.args.change.now.value }
