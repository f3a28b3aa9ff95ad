-- An error ends it.
use Rattle.vcd_amend_program.proofs.part.Outcomes.{ends_with, refused}
use Rattle.vcd_amend_program.proofs.part.write_to_standard.Goals as goal

pub returns-in_err-written : goal.returns-in_err-written
returns-in_err-written g c = λ o script.
    ends_with o c.args.part.now.request c.from_residual-in_err-written.result c.in_err-written.field-0.0
    c.from_residual-in_err-written.ensures.1 (refused o _ _ _ _ c.in_err-written.ensures.taken)
