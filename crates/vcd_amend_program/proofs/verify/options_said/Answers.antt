-- The options are those that the mark says.
use Rattle.vcd_amend_program.proofs.verify.AskedByMarks.{options_said, values_are}
use Rattle.vcd_amend_program.proofs.verify.options_said.Goals as goal

pub returns-clause-asked : goal.returns-clause-asked
returns-clause-asked c mark said =
    options_said c.args.depth c.args.path mark _ _ _ _
    (values_are _ _ _ _ c.given_texts.ensures c.as_slice.ensures.value said.keep)
    (values_are _ _ _ _ c.given_texts-2.ensures c.as_slice-2.ensures.value said.remove)
    said.from said.to
