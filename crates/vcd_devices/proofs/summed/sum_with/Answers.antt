use Rattle.std.proofs.Common.{◌≡◌, ◌*◌, ◌/◌, ◌<◌, take, drop, length, sym, ap, ◌∙◌, arith}
use Rattle.std.specs.List.{fold}
use Rattle.std.proofs.lemmas.List.{take-append-drop}
use Rattle.std.proofs.lemmas.List.Sums.{fold-append}
use Rattle.vcd_devices.specs.Sums.{with_byte}
use Rattle.vcd_devices.proofs.summed.EightBytes.{eight_more}
use Rattle.vcd_devices.proofs.summed.sum_with.Goals as goal

pub loop-eight-preserved : goal.loop-eight-preserved
loop-eight-preserved c =
    let bytes = c.args.bytes.now in
    let i = c.loop-eight.eight-index in
    let within : i < length bytes / 8 = omega (arith, c.loop-eight-test.true, c.as_chunks.ensures.front_len) in
    eight_more bytes _ (length bytes / 8) i c.args.sum _ _ c.as_chunks.ensures.front within c.loop-eight.invariant
    c.with_eight-sum.ensures

pub returns : goal.returns
returns c =
    let bytes = c.args.bytes.now in
    let n = 8 * c.loop-eight.eight-index in
    let end : length bytes / 8 * 8 ≡ n = omega (
      arith,
      c.loop-eight-test.false,
      c.as_chunks.ensures.front_len,
      c.loop-eight.auto.eight-index-end,
    ) in
    c.with_bytes.ensures
    ∙ (λ j. fold with_byte (c.loop-eight.invariant j) ((c.as_chunks.ensures.back ∙ ap (λ n. drop n bytes) end) j))
    ∙ sym (fold-append with_byte c.args.sum (take n bytes) (drop n bytes))
    ∙ ap (fold with_byte c.args.sum) (take-append-drop n bytes)
