use Rattle.std.proofs.Common.{◌<◌, length, ap, sym, subst, ◌∙◌}
use Rattle.std.proofs.lemmas.Bool.{lt-ltb}
use Rattle.vcd_core.specs.Contents.{Contents, SignalContents, signal_at}
use Rattle.vcd_core.specs.CaptureContents.{contents}
use Rattle.vcd_edit.specs.declared.edit.Formula.{Formula}
use Rattle.vcd_edit.specs.Effect.{first_operand, formula}
use Rattle.vcd_edit.specs.inside.plans.Derive.{HasOperands}
use Rattle.vcd_edit.proofs.checking.Faults.{first_operand_there, operands_there}
use Rattle.vcd_edit.proofs.plans.derive.DerivedSignal.{derived_parts}
use Rattle.vcd_edit.proofs.plans.derive.new_signal.Goals as goal

pub signal_at-first-requires-clause-position_exists : goal.signal_at-first-requires-clause-position_exists
signal_at-first-requires-clause-position_exists c =
    let d : Contents = contents c.args.capture.now in
    let below =
    subst (λ k. k < length d.signals)
    (sym (c.first_operand.ensures ∙ ap (λ (f : Formula). first_operand f) c.formula-formula.ensures))
    (first_operand_there d (formula c.args.rule) c.requires.operands_exist) in
    lt-ltb c.first_operand.result (length d.signals) below

pub derived_wave-requires-clause-operands : goal.derived_wave-requires-clause-operands
derived_wave-requires-clause-operands c =
    let d : Contents = contents c.args.capture.now in
    subst (HasOperands d) (sym c.formula-formula.ensures)
    (operands_there d (formula c.args.rule) c.requires.operands_exist c.requires.operand_widths)

pub returns : goal.returns
returns c =
    let d : Contents = contents c.args.capture.now in
    derived_parts d c.args.word.now c.args.rule c.formula-formula.result _ _ _ c.in_ok-derived_wave.field-0
    c.formula-formula.ensures
    (c.in_ok-share.ensures ∙ ap (λ (s : SignalContents). s.scopes) (sym c.signal_at-first.ensures.signal)
    ∙ ap (λ k. (signal_at d k).scopes) c.first_operand.ensures)
    c.in_ok-copy_word.ensures c.in_ok-name_of_one_word.ensures c.in_ok-derived_wave.ensures
