-- The line has the number.
use Rattle.std.proofs.Common.{List, ℕ, ◌++◌, ap, ◌∙◌, subst}
use Rattle.std.specs.Io.KnownBytes.{Appends}
use Rattle.vcd_amend_program.specs.Report.{own_report}
use Rattle.vcd_amend_program.proofs.reporting.report_same.Goals as goal

pub returns : goal.returns
returns g c = λ works.
    let told = c.report_with.ensures works in
    let number = c.as_bytes.ensures.value ∙ c.format.ensures.text in (
      subst (Appends _ _) (ap (λ (d : List ℕ). own_report (c.args.text.now ++ d)) number) told.0,
      told.1,
    )
