use Rattle.std.proofs.Common.{◌+◌, take, refl, sym, ◌∙◌}
use Rattle.std.proofs.lemmas.List.{take_rest}
use Rattle.vcd_edit.proofs.shared.Lists.{take_here}
use Rattle.vcd_core.specs.WavePush.{last_value}
use Rattle.vcd_edit.proofs.plans.deglitch.RemainingChanges.{remaining_listed, last_so_far}
use Rattle.vcd_edit.proofs.plans.deglitch.remaining_prefix_len.Goals as goal

pub loop-i-init : goal.loop-i-init
unfolding last_value
loop-i-init c = record { remaining = refl; last = refl }

pub loop-i-preserved : goal.loop-i-preserved
loop-i-preserved c =
    let l = c.loop-i in
    let cs = c.args.changes.now in
    record {
      remaining = remaining_listed c.args.ticks l.last.now cs l.i c.index-changes-i.result _ c.loop-i-test.true
          c.index-changes-i.is (take_rest cs (l.i + 1)) (sym c.remains.ensures ∙ c.if-not-remains.false)
          (take l.i cs) _ _ l.invariant.remaining
          (take_here cs l.i c.index-changes-i.result c.loop-i-test.true c.index-changes-i.is);
      last = last_so_far c.args.before.now cs l.i c.index-changes-i.result c.loop-i-test.true c.index-changes-i.is;
    }
