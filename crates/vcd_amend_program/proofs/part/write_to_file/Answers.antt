-- An error ends it.
use Rattle.vcd_amend_program.proofs.part.Outcomes.{ends_with, no_output, refused, refused_first}
use Rattle.vcd_amend_program.proofs.part.write_to_file.Goals as goal

pub returns-in_err-check_first : goal.returns-in_err-check_first
returns-in_err-check_first g c = λ o script output.
    ends_with o c.args.part.now.request c.from_residual-in_err-check_first.result c.in_err-check_first.field-0.0
    c.from_residual-in_err-check_first.ensures.1 (refused_first o _ _ c.in_err-check_first.ensures)

pub returns-in_err-written : goal.returns-in_err-written
returns-in_err-written g c = λ o script output.
    ends_with o c.args.part.now.request c.from_residual-in_err-written.result c.in_err-written.field-0.0
    c.from_residual-in_err-written.ensures.1 (refused o _ _ _ _ c.in_err-written.ensures.taken)

pub returns-in_err-commit : goal.returns-in_err-commit
returns-in_err-commit g c = λ o script output.
    no_output o c.args.part.now.request c.from_residual-in_err-commit.result c.args.path.now
    c.in_err-commit.field-0.0 output c.from_residual-in_err-commit.ensures.1
