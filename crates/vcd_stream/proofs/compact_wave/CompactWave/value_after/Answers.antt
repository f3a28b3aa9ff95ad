use Rattle.std.proofs.Common.{◌≡◌, ◌-◌, suc, take, length, ◌∙◌, sym, ap, arith, subst}
use Rattle.vcd_core.specs.Value.{all_x}
use Rattle.vcd_core.specs.WavePush.{last_value}
use Rattle.vcd_core.specs.Wave.{IsWave}
use Rattle.vcd_stream.specs.CompactWaveView.{CompactWaveView}
use Rattle.vcd_stream.proofs.compact_wave.PartsOfChanges.{length_made, last_made, value_there}
use Rattle.vcd_stream.proofs.compact_wave.CompactWave.value_after.Goals as goal

pub returns-then-count-eq0-clause-last : goal.returns-then-count-eq0-clause-last
unfolding last_value
returns-then-count-eq0-clause-last c =
    let none : 0 ≡ c.args.count = omega (arith, c.if-count-eq0.true) in
    c.filled.ensures ∙ ap (λ (w : CompactWaveView). all_x w.width) c.self.view_is
    ∙ ap (λ n. last_value (all_x c.args.self.now.width) (take n c.args.self.now.changes)) none

pub returns-then-count-eq0-clause-at : goal.returns-then-count-eq0-clause-at
returns-then-count-eq0-clause-at c = λ tick counted.
    value_there c.args.self.now.width c.args.self.now.changes
    (subst (λ (w : CompactWaveView). IsWave w.width w.changes) c.self.view_is c.self.invariant.4) c.args.count tick
    c.filled.result (returns-then-count-eq0-clause-last c) counted

pub widened-requires-clause-within : goal.widened-requires-clause-within
widened-requires-clause-within c = omega (
  arith,
  c.requires,
  c.if-count-eq0.false,
  ap (λ (w : CompactWaveView). length w.changes) c.self.view_is,
  length_made _ _ c.self.invariant.3,
)

pub returns-clause-last : goal.returns-clause-last
returns-clause-last c =
    let k = c.args.count - 1 in
    let long = ap (λ (w : CompactWaveView). length w.changes) c.self.view_is in
    let next : suc k ≡ c.args.count = omega (arith, c.if-count-eq0.false) in
    c.widened.ensures
    ∙ sym (last_made (all_x c.self.inside.width) _ _ k c.widened.result (omega (arith, c.requires, long, next)))
    ∙ ap (λ (w : CompactWaveView). last_value (all_x w.width) (take (suc k) w.changes)) c.self.view_is
    ∙ ap (λ n. last_value (all_x c.args.self.now.width) (take n c.args.self.now.changes)) next

pub returns-clause-at : goal.returns-clause-at
returns-clause-at c = λ tick counted.
    value_there c.args.self.now.width c.args.self.now.changes
    (subst (λ (w : CompactWaveView). IsWave w.width w.changes) c.self.view_is c.self.invariant.4) c.args.count tick
    c.widened.result (returns-clause-last c) counted
