use Rattle.std.proofs.Common.{◌∙◌}
use Rattle.vcd_core.proofs.decimal.DigitsInTurn.{numeral_more}
use Rattle.vcd_core.proofs.decimal.long_number.Goals as goal

pub loop-digit-preserved : goal.loop-digit-preserved
loop-digit-preserved c =
    c.saturating_add-number.ensures
    ∙ numeral_more c.args.digits.now c.loop-digit.digit-index _ c.loop-digit.number c.saturating_mul.result
    c.from-value.result
    c.requires c.loop-digit-test.true c.loop-digit.invariant c.saturating_mul.ensures c.from-value.ensures
