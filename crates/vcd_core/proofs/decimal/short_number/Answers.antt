use Rattle.std.proofs.Common.{refl, sym, ◌∙◌, arith}
use Rattle.vcd_core.proofs.decimal.DigitsInTurn.{prefix_more}
use Rattle.vcd_core.proofs.decimal.short_number.Goals as goal

pub overflow_mul-number : goal.overflow_mul-number
overflow_mul-number c = omega (
  arith,
  prefix_more c.args.text.now c.loop-byte.byte-index c.loop-byte.number _ c.loop-byte.invariant.0
      (sym c.is_ascii_digit.ensures.value ∙ c.if-not-is_ascii_digit.false) c.requires c.loop-byte-test.true
      c.loop-byte.invariant.1 refl,
)

pub overflow_add-number : goal.overflow_add-number
overflow_add-number c = omega (
  arith,
  prefix_more c.args.text.now c.loop-byte.byte-index c.loop-byte.number c.from.result c.loop-byte.invariant.0
      (sym c.is_ascii_digit.ensures.value ∙ c.if-not-is_ascii_digit.false) c.requires c.loop-byte-test.true
      c.loop-byte.invariant.1 c.from.ensures,
)

pub loop-byte-preserved : goal.loop-byte-preserved
loop-byte-preserved c =
    let k = prefix_more c.args.text.now c.loop-byte.byte-index c.loop-byte.number c.from.result c.loop-byte.invariant.0
    (sym c.is_ascii_digit.ensures.value ∙ c.if-not-is_ascii_digit.false) c.requires c.loop-byte-test.true
    c.loop-byte.invariant.1 c.from.ensures in
    (k.0, k.1)
