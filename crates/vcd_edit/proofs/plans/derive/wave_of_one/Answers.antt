use Rattle.std.proofs.Common.{◌≡◌, ◌+◌, ◌<◌, ◌≤◌, [], ◌∷◌, List, length, get_or, map, drop, ap, subst, ◌∙◌, arith}
use Rattle.std.proofs.lemmas.List.{length-replicate}
use Rattle.vcd_core.specs.declared.bit.Bit.{Bit}
use Rattle.vcd_core.specs.declared.bit.Bit.TheVariants.{X}
use Rattle.vcd_core.specs.Value.{all_x}
use Rattle.vcd_core.specs.declared.wave.Change.{Change}
use Rattle.vcd_core.specs.Wave.{change, IsWave}
use Rattle.vcd_edit.specs.inside.plans.Derive.{selected_change}
use Rattle.vcd_edit.proofs.plans.derive.DerivedSignal.{no_change_made, change_next, one_made, late_enough, selected_is}
use Rattle.vcd_edit.proofs.plans.derive.DerivedSignal.{width_at}
use Rattle.vcd_edit.proofs.shared.WithoutRepeats.{wave_rises}
use Rattle.vcd_edit.proofs.plans.derive.wave_of_one.Goals as goal

pub loop-change-init : goal.loop-change-init
loop-change-init c =
    no_change_made c.args.k c.args.polarity c.args.operand.now c.new-wave.result
    (subst (IsWave c.args.operand.now.width) c.changes-change-items.ensures.changes c.changes-change-items.ensures.form)
    c.new-wave.ensures.width c.new-wave.ensures.changes

pub selected_bit-bit-requires : goal.selected_bit-bit-requires
selected_bit-bit-requires c =
    let wave = c.args.operand.now in
    let is = c.changes-change-items.ensures.changes in
    let form = subst (IsWave wave.width) is c.changes-change-items.ensures.form in
    let wide = width_at wave.width 0 wave.changes c.loop-change.change-index c.change-item.result
    (wave_rises wave.width 0 (all_x wave.width) wave.changes (length-replicate wave.width X) form.rise)
    (subst (λ (ds : List Change). c.loop-change.change-index < length ds) is c.loop-change-test.true)
    (subst (λ (ds : List Change). c.change-item.result ≡ get_or ds c.loop-change.change-index c.change-item.result) is
    c.change-item.is) in
    omega (arith, wide, c.requires)

pub push-requires-clause-none_later : goal.push-requires-clause-none_later
push-requires-clause-none_later c =
    let f = selected_change c.args.k c.args.polarity in
    let cs = c.args.operand.now.changes in
    let i = c.loop-change.change-index in
    let is = c.changes-change-items.ensures.changes in
    late_enough (map f cs) (map f (drop i cs)) (map f (drop (i + 1) cs))
    (change c.change-item.result.tick c.filled.result) c.loop-change.wave
    (change_next c.args.k c.args.polarity cs i c.change-item.result c.filled.result
    (subst (λ (ds : List Change). i < length ds) is c.loop-change-test.true)
    (subst (λ (ds : List Change). c.change-item.result ≡ get_or ds i c.change-item.result) is c.change-item.is)
    (c.filled.ensures ∙ ap (λ (b : Bit). b ∷ []) c.selected_bit-bit.ensures)) c.loop-change.invariant

pub loop-change-preserved : goal.loop-change-preserved
loop-change-preserved c =
    let f = selected_change c.args.k c.args.polarity in
    let cs = c.args.operand.now.changes in
    let i = c.loop-change.change-index in
    let is = c.changes-change-items.ensures.changes in
    one_made (map f cs) (map f (drop i cs)) (map f (drop (i + 1) cs))
    (change c.change-item.result.tick c.filled.result) c.loop-change.wave c.push.new.self
    (change_next c.args.k c.args.polarity cs i c.change-item.result c.filled.result
    (subst (λ (ds : List Change). i < length ds) is c.loop-change-test.true)
    (subst (λ (ds : List Change). c.change-item.result ≡ get_or ds i c.change-item.result) is c.change-item.is)
    (c.filled.ensures ∙ ap (λ (b : Bit). b ∷ []) c.selected_bit-bit.ensures)) c.loop-change.invariant
    c.in_ok-push.ensures.width c.in_ok-push.ensures.values c.in_ok-push.ensures.last

pub returns : goal.returns
returns c = λ end upto. (
  c.shrink_to_fit.ensures.width ∙ c.loop-change.invariant.width,
  c.shrink_to_fit.ensures.changes
      ∙ selected_is c.args.k c.args.polarity c.args.operand.now end c.loop-change.change-index c.loop-change.wave upto
      (subst (λ (ds : List Change). length ds ≤ c.loop-change.change-index) c.changes-change-items.ensures.changes
      c.loop-change-test.false) c.loop-change.invariant
      (subst (IsWave c.loop-change.wave.width) c.shrink_to_fit.ensures.changes
      (subst (λ n. IsWave n c.shrink_to_fit.new.self.changes) c.shrink_to_fit.ensures.width
      c.changes_have_form.ensures)),
)
