-- The ending of the program is the one that the words had.
use Rattle.std.proofs.Common.{Err, inl, inr, refl}
use Rattle.clap.specs.declared.error.kind.ErrorKind.TheVariants as kinds_of_clap
use Rattle.vcd_shell.proofs.program.status_of_program.Goals as goal

pub returns-in-Ok-clause-reported : goal.returns-in-Ok-clause-reported
returns-in-Ok-clause-reported g c = (
  c.ending_of_words.result,
  rw (c.in-Ok.is) c.ending_of_words.ensures,
  rw (c.in-Ok.is) tt,
  c.report_ending.ensures.status,
  c.report_ending.ensures.text,
)

-- the kind of the error is the one that `clap` has for a value that it refuses
pub returns-in-Err-clause-reported : goal.returns-in-Err-clause-reported
returns-in-Err-clause-reported g c = (
  Err c.answer_bad_words-answer.result,
  rw (c.in-Err.is) tt,
  rw (c.in-Err.is) (kinds_of_clap.ValueValidation, inr (inl refl), c.answer_bad_words-answer.ensures),
  c.report_ending-in-Err.ensures.status,
  c.report_ending-in-Err.ensures.text,
)
