use Rattle.std.proofs.Common.{IfOk, sym, subst}
use Rattle.vcd_core.specs.Value.{letter_at}
use Rattle.vcd_core.specs.Contents.{Contents, SignalContents, signal_value}
use Rattle.vcd_core.specs.CaptureContents.{contents}
use Rattle.vcd_edit.specs.declared.edit.Formula.{Formula}
use Rattle.vcd_edit.specs.Operators.{not_bit, operator_bit}
use Rattle.vcd_edit.specs.Effect.{formula_bit}
use Rattle.vcd_edit.specs.inside.plans.Derive.{HasBitsUpTo}
use Rattle.vcd_edit.proofs.plans.derive.derived_wave.Goals as goal

pub returns-in-Negation : goal.returns-in-Negation
returns-in-Negation c =
    let d : Contents = contents c.args.capture.now in
    subst (λ (f : Formula). IfOk c.wave_of_one.result (HasBitsUpTo d.end (formula_bit f d))) (sym c.in-Negation.is)
    (subst (λ (s : SignalContents). IfOk c.wave_of_one.result
    (HasBitsUpTo d.end (λ t. not_bit (letter_at (signal_value s t) 0)))) (sym c.signal_at.ensures.signal)
    (c.wave_of_one.ensures d.end c.signal_at.ensures.sound.ticks))

pub returns-in-BitSelect : goal.returns-in-BitSelect
returns-in-BitSelect c =
    let d : Contents = contents c.args.capture.now in
    let r = c.wave_of_one-in-BitSelect.result in
    subst (λ (f : Formula). IfOk r (HasBitsUpTo d.end (formula_bit f d))) (sym c.in-BitSelect.is)
    (subst (λ (s : SignalContents). IfOk r (HasBitsUpTo d.end (λ t. letter_at (signal_value s t) c.in-BitSelect.k)))
    (sym c.signal_at-in-BitSelect.ensures.signal)
    (c.wave_of_one-in-BitSelect.ensures d.end c.signal_at-in-BitSelect.ensures.sound.ticks))

pub returns-in-Pair : goal.returns-in-Pair
returns-in-Pair c =
    let d : Contents = contents c.args.capture.now in
    let r = c.wave_of_two.result in
    subst (λ (f : Formula). IfOk r (HasBitsUpTo d.end (formula_bit f d))) (sym c.in-Pair.is)
    (subst (λ (ss : SignalContents × SignalContents). IfOk r (HasBitsUpTo d.end
    (λ t. operator_bit c.in-Pair.operator (letter_at (signal_value ss.0 t) 0) (letter_at (signal_value ss.1 t) 0))))
    (λ i. (sym c.signal_at-in-Pair.ensures.signal i, sym c.signal_at-in-Pair-2.ensures.signal i))
    (c.wave_of_two.ensures d.end c.signal_at-in-Pair.ensures.sound.ticks c.signal_at-in-Pair-2.ensures.sound.ticks))
