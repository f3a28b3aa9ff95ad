use Rattle.std.proofs.Common.{◌++◌, ◌+◌, List, ap, sym, ◌∙◌, arith}
use Rattle.vcd_core.specs.declared.wave.Change.{Change}
use Rattle.vcd_edit.proofs.plans.deglitch.RemainingChanges.{remaining_listed, one_left_out, listed_enough, listed_all}
use Rattle.std.proofs.lemmas.List.{take_rest}
use Rattle.vcd_edit.proofs.plans.deglitch.remaining_list.Goals as goal
use Rattle.vcd_edit.proofs.plans.deglitch.remaining_list.Goals.{else-loop-i-test, then-loop-i-test+then-len-glitches}

pub loop-i-preserved-then-not-remains : goal.loop-i-preserved-then-not-remains
loop-i-preserved-then-not-remains c =
    let l = c.loop-i in
    let cs = c.args.changes.now in
    record {
      few = l.invariant.few;
      all = l.invariant.all ∙ ap (λ (rest : List Change). l.remaining.items ++ rest)
          (one_left_out c.args.ticks l.last.now cs l.i c.index-changes-i.result _ c.loop-i-test.true
          c.index-changes-i.is (take_rest cs (l.i + 1)) (sym c.remains.ensures ∙ c.if-not-remains.true));
    }

pub loop-i-preserved : goal.loop-i-preserved
loop-i-preserved c =
    let l = c.loop-i in
    let cs = c.args.changes.now in
    record {
      few = omega (arith, c.in_ok-push.ensures.len);
      all = remaining_listed c.args.ticks l.last.now cs l.i c.index-changes-i.result _ c.loop-i-test.true
          c.index-changes-i.is (take_rest cs (l.i + 1)) (sym c.remains.ensures ∙ c.if-not-remains.false)
          l.remaining.items c.push.new.self.items _ l.invariant.all c.in_ok-push.ensures.items;
    }

pub returns : goal.returns
returns c =
    elim c.loop-i-test.branch [
      | else-loop-i-test w ↦
          listed_all c.args.ticks c.loop-i.last.now c.args.changes.now c.loop-i.remaining.items _ c.loop-i.i
          c.args.glitches.remaining
          (omega arith) c.loop-i.invariant.all c.loop-i.invariant.few
      | then-loop-i-test+then-len-glitches w ↦
          listed_enough c.loop-i.remaining.items _ _ c.args.glitches.remaining c.loop-i.invariant.all (omega arith)
    ]
