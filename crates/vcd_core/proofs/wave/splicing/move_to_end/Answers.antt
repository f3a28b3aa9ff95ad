use Rattle.std.proofs.Common.{w64, ◌-◌, length, arith}
use Rattle.std.proofs.lemmas.Int.{to_z-of_z}
use Rattle.vcd_core.proofs.wave.splicing.MovedChanges.{lifted_fits, lifted_more}
use Rattle.vcd_core.proofs.wave.splicing.move_to_end.Goals as goal

pub moved_change-next-requires : goal.moved_change-next-requires
moved_change-next-requires c =
    lifted_fits _ c.args.changes.now c.loop-left.changes (length c.args.changes.now - c.args.gap) c.args.gap
    c.loop-left.left c.index-changes-left.result
    (omega arith) (omega arith) c.loop-left.invariant.within c.loop-left.invariant.is
    c.args.from c.args.by (to_z-of_z w64 c.args.by c.ranges.by) c.loop-left-test.true c.requires.ticks

pub loop-left-preserved : goal.loop-left-preserved
loop-left-preserved c = record {
  from = omega arith;
  within = omega arith;
  is = lifted_more _ c.args.changes.now c.loop-left.changes (length c.args.changes.now - c.args.gap) c.args.gap
      c.loop-left.left c.index-changes-left.result
      (omega arith) (omega arith) c.loop-left.invariant.within c.loop-left.invariant.is _ c.moved_change-next.ensures;
}
