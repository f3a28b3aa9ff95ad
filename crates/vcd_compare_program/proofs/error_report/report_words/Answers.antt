-- The line has the text.
use Rattle.std.proofs.Common.{ap, ◌∙◌, subst}
use Rattle.std.specs.Io.KnownBytes.{Appends}
use Rattle.vcd_compare_program.specs.ErrorReport.{own_report}
use Rattle.vcd_compare_program.proofs.error_report.report_words.Goals as goal

pub returns : goal.returns
returns g c = λ works.
    let told = c.report.ensures works in
    (subst (Appends _ _) (ap own_report (c.as_bytes.ensures.value ∙ c.word_text.ensures)) told.0, told.1)
