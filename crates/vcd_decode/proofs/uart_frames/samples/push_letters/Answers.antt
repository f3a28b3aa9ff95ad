use Rattle.std.proofs.Common.{◌+◌, ◌-◌, length, sym, ap, ◌∙◌, arith}
use Rattle.std.proofs.lemmas.List.{length-append}
use Rattle.vcd_decode.specs.Uart.{last_bit}
use Rattle.vcd_decode.specs.inside.UartFrames.{more_letters}
use Rattle.vcd_decode.proofs.shared.UartSteps.{letter_pushed, letters_open, letters_full}
use Rattle.vcd_decode.proofs.uart_frames.samples.push_letters.Goals as goal

pub returns-then-not-is_sampled : goal.returns-then-not-is_sampled
returns-then-not-is_sampled c =
    letters_open c.args.setup.now c.args.letter c.args.start c.args.through 0 c.loop-bit.letters.items c.loop-bit.bit
    c.loop-bit.invariant.0 (last_bit c.args.setup.now - c.loop-bit.bit)
    (sym c.is_sampled.ensures ∙ c.if-not-is_sampled.true)
    ∙ c.loop-bit.invariant.1

pub loop-bit-preserved : goal.loop-bit-preserved
loop-bit-preserved c =
    let more = more_letters c.args.setup.now c.args.letter c.args.start c.args.through
    (last_bit c.args.setup.now - (c.loop-bit.bit + 1)) in (
      ap length c.in_ok-push.ensures.items ∙ length-append c.loop-bit.letters.items _
          ∙ ap (λ n. n + 1) c.loop-bit.invariant.0,
      ap more c.in_ok-push.ensures.items
          ∙ letter_pushed c.args.setup.now c.args.letter c.args.start c.args.through (last_bit c.args.setup.now)
          c.loop-bit.letters.items c.loop-bit.bit c.loop-bit.invariant.0
          (omega (arith, c.loop-bit-test.true, c.last_bit-bit-end.ensures.count))
          (sym c.is_sampled.ensures ∙ c.if-not-is_sampled.false) ∙ c.loop-bit.invariant.1,
    )

pub returns : goal.returns
returns c =
    letters_full c.args.setup.now c.args.letter c.args.start c.args.through (last_bit c.args.setup.now)
    c.loop-bit.letters.items c.loop-bit.bit
    c.loop-bit.invariant.0 (omega (arith, c.loop-bit-test.false, c.last_bit-bit-end.ensures.count))
    ∙ c.loop-bit.invariant.1
