use Rattle.std.proofs.Common.{◌∙◌, sym}
use Rattle.vcd_text.proofs.reading.digit_blocks.LetterBlocks.{two_states_are_digits}
use Rattle.vcd_text.proofs.reading.digit_blocks.with_eight_digits.Goals as goal

pub returns-then-are_two_state : goal.returns-then-are_two_state
returns-then-are_two_state c = (
  two_states_are_digits c.args.digits.now (sym c.are_two_state.ensures ∙ c.if-are_two_state.true),
  c.with_two_state_digits.ensures,
)
