use Rattle.std.proofs.Common.{inl, inr, sym, ap, ◌∙◌}
use Rattle.vcd_text.specs.declared.reading.code_targets.CodeTarget.TheVariants.{Kept}
use Rattle.vcd_text.proofs.reading.variables.ChangedVariable.{checked, kept_in_time}
use Rattle.vcd_text.proofs.reading.variables.Variables.change.Goals as goal

pub returns-then-is_late : goal.returns-then-is_late
returns-then-is_late c = λ state at k.
    let change = c.args.change.now in
    checked c.args.part.now c.args.silent.now change.tick state change.code.now change.digits.now c.from-width.result
    c.in-Kept.first c.args.self.now c.check_digits.result k
    (sym c.get.ensures ∙ c.in-Kept.is ∙ ap (λ n. Kept n c.in-Kept.first) (sym c.from-width.ensures))
    c.check_digits.ensures (inl (sym c.is_late.ensures ∙ c.if-is_late.true))

pub returns-then-is_set : goal.returns-then-is_set
returns-then-is_set c = λ state at k.
    let change = c.args.change.now in
    let is = sym c.get.ensures ∙ c.in-Kept.is ∙ ap (λ n. Kept n c.in-Kept.first) (sym c.from-width.ensures) in
    checked c.args.part.now c.args.silent.now change.tick state change.code.now change.digits.now c.from-width.result
    c.in-Kept.first c.args.self.now c.check_digits-then-is_set.result k is c.check_digits-then-is_set.ensures
    (inr (c.from-width.result, c.in-Kept.first, is, sym c.is_set.ensures ∙ c.if-is_set.true))

pub returns-else-is_set : goal.returns-else-is_set
returns-else-is_set c = λ state at k.
    let change = c.args.change.now in
    kept_in_time c.args.part.now c.args.silent.now change.tick state change.code.now change.digits.now c.args.self.now
    c.change_at.new.self c.change_at.result (sym c.is_late.ensures ∙ c.if-is_late.false) c.change_at.ensures.targets
    (c.change_at.ensures.changed state change.code.now (at ∙ sym c.seen_tick.ensures) k
    (sym c.get.ensures ∙ c.in-Kept.is ∙ ap (λ n. Kept n c.in-Kept.first) (sym c.from-width.ensures)))
