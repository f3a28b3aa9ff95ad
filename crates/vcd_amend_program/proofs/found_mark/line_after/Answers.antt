-- No line is left.
use Rattle.std.proofs.Common.{◌∙◌}
use Rattle.vcd_amend_program.proofs.found_mark.LinesSaid.{none_said}
use Rattle.vcd_amend_program.proofs.found_mark.line_after.Goals as goal

pub returns : goal.returns
returns c = c.loop-line.invariant.left ∙ none_said c.args.first.now c.loop-line.rest.now c.in_default.ensures
