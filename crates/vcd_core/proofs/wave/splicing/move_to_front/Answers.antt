use Rattle.std.proofs.Common.{w64, arith}
use Rattle.std.proofs.lemmas.Int.{to_z-of_z}
use Rattle.vcd_core.proofs.wave.splicing.MovedChanges.{pulled_fits, pulled_more}
use Rattle.vcd_core.proofs.wave.splicing.move_to_front.Goals as goal

pub moved_change-next-requires : goal.moved_change-next-requires
moved_change-next-requires c =
    pulled_fits _ c.args.changes.now c.loop-i.changes c.args.from c.args.to c.loop-i.i c.index-changes-i.result
    c.requires.ordered (omega arith) (omega arith) c.loop-i.invariant
    c.args.by (to_z-of_z w64 c.args.by c.ranges.by) c.requires.ticks

pub loop-i-preserved : goal.loop-i-preserved
loop-i-preserved c =
    pulled_more _ c.args.changes.now c.loop-i.changes c.args.from c.args.to c.loop-i.i c.index-changes-i.result
    c.requires.ordered (omega arith) (omega arith) c.loop-i.invariant
    _ _ (omega arith) c.moved_change-next.ensures
