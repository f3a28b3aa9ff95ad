-- Each turn writes two more letters.
use Rattle.std.proofs.Common.{◌≡◌, ◌+◌, ◌*◌, ℕ, ap, ◌∙◌, arith}
use Rattle.std.proofs.lemmas.List.{length-set}
use Rattle.vcd_core.specs.Value.{printed_letter}
use Rattle.vcd_core.specs.BlockRows.{letter_in}
use Rattle.vcd_text.proofs.writing.values.LetterBits.{pair_written}
use Rattle.vcd_text.proofs.writing.values.fill_letters.Goals as goal

pub loop-k-preserved : goal.loop-k-preserved
loop-k-preserved c =
    let k = c.loop-k.k in
    let at = λ (i : ℕ). ap printed_letter (c.loop-k.invariant.left i) in
    let index : (i : ℕ) → 2 * k + (i + 2) ≡ 2 * (k + 1) + i = λ i. omega arith in
    record {
      sized = length-set _ _ _ ∙ length-set _ _ _ ∙ c.loop-k.invariant.sized;
      written = pair_written (λ i. printed_letter (letter_in c.args.block i)) c.loop-k.letters k _ _
          c.loop-k.invariant.sized (omega arith) c.loop-k.invariant.written
          (c.letter_pair-pair.ensures.higher ∙ at 1) (c.letter_pair-pair.ensures.lower ∙ at 0);
      left = λ i. c.without_pair-left.ensures i ∙ c.loop-k.invariant.left (i + 2)
          ∙ ap (letter_in c.args.block) (index i);
    }
