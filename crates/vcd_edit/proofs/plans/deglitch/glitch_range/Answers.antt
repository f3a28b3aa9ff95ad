use Rattle.std.proofs.Common.{◌++◌, ◌+◌, ◌-◌, take, drop, sym, ◌∙◌, arith}
use Rattle.std.proofs.lemmas.List.{take_rest}
use Rattle.vcd_edit.proofs.plans.deglitch.RemainingChanges.{remaining_after, left_out_after, glitches_long}
use Rattle.vcd_edit.proofs.plans.deglitch.RemainingChanges.{glitches_done}
use Rattle.vcd_edit.proofs.plans.deglitch.glitch_range.Goals as goal

pub loop-i-preserved-then-remains : goal.loop-i-preserved-then-remains
loop-i-preserved-then-remains c =
    let l = c.loop-i in
    let cs = c.args.changes.now in
    let same = l.invariant.remaining in
    record {
      to = omega arith;
      less = l.invariant.less;
      remaining = (
        same.0,
        same.1,
        remaining_after c.args.ticks l.last.now cs l.i c.index-changes-i.result _ c.loop-i-test.true
            c.index-changes-i.is
            (take_rest cs (l.i + 1)) (sym c.remains.ensures ∙ c.if-remains.true) same.0 _ l.glitches.to
            l.invariant.to same.2,
      );
    }

pub loop-i-preserved : goal.loop-i-preserved
loop-i-preserved c =
    let l = c.loop-i in
    let cs = c.args.changes.now in
    let same = l.invariant.remaining in
    record {
      to = omega arith;
      less = omega (arith, l.invariant.less, l.invariant.to);
      remaining = (
        same.0 ++ take (l.i - l.glitches.to) (drop l.glitches.to cs),
        glitches_long same.0 cs l.glitches.remaining l.glitches.to l.i same.1 l.invariant.to (omega arith),
        left_out_after c.args.ticks l.last.now cs l.i c.index-changes-i.result _ c.loop-i-test.true c.index-changes-i.is
            (take_rest cs (l.i + 1)) (sym c.remains.ensures ∙ c.if-remains.false) same.0 _ l.glitches.to same.2,
      );
    }

pub returns-clause-remaining : goal.returns-clause-remaining
returns-clause-remaining c =
    let l = c.loop-i in
    glitches_done c.args.ticks l.last.now c.args.changes.now l.invariant.remaining.0 _ l.glitches.remaining
    l.glitches.to l.i (omega arith)
    l.invariant.to l.invariant.remaining.1 l.invariant.remaining.2
