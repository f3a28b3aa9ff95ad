-- The line has the number.
use Rattle.std.proofs.Common.{List, ℕ, ◌++◌, codes, ap, ◌∙◌, subst}
use Rattle.std.specs.Io.KnownBytes.{Appends}
use Rattle.vcd_amend_program.specs.Report.{own_report}
use Rattle.vcd_amend_program.proofs.reporting.report_past_end.Goals as goal

pub returns : goal.returns
returns g c = λ works.
    let told = c.report_with.ensures works in
    let number = c.as_bytes.ensures.value ∙ c.format.ensures.text in (
      subst (Appends _ _)
          (ap (λ (d : List ℕ). own_report (codes "WindowPastEnd: --from is past the last tick, which is " ++ d))
          number) told.0,
      told.1,
    )
