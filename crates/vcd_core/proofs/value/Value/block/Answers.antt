use Rattle.std.proofs.Common.{◌∙◌, arith}
use Rattle.std.specs.Int.{bit_at}
use Rattle.vcd_core.specs.BlockRows.{letter_of}
use Rattle.vcd_core.proofs.shared.LettersOfPlanes.{word_within, letter_in-shown}
use Rattle.vcd_core.proofs.value.Value.block.Goals as goal

pub plane_word-requires : goal.plane_word-requires
plane_word-requires c = word_within _ _ c.self.invariant c.self.view_is 0 c.args.k (omega arith) c.requires

pub plane_word-requires-2 : goal.plane_word-requires-2
plane_word-requires-2 c = word_within _ _ c.self.invariant c.self.view_is 1 c.args.k (omega arith) c.requires

pub returns : goal.returns
returns c = record {
  each = λ i inside. (λ p. letter_of (bit_at (c.plane_word.ensures p) i) (bit_at (c.plane_word-2.ensures p) i))
      ∙ letter_in-shown _ _ c.self.invariant c.self.view_is c.args.k i c.requires inside;
}
