-- No line says that something differs.
use Rattle.std.proofs.Common.{◌∙◌, List, ap}
use Rattle.std.specs.Prelude.{◌==◌, count_by}
use Rattle.vcd_compare_program.specs.ReportLines.{tells_difference}
use Rattle.vcd_compare_program.specs.declared.report_line.ReportLine.{ReportLine}
use Rattle.vcd_compare_program.proofs.report_line.Sameness.{same_if_none}
use Rattle.vcd_compare_program.proofs.report_line.is_same.Goals as goal

pub returns : goal.returns
returns c = λ a b told whole.
    ap (λ n. n == 0) c.difference_count.ensures
    ∙ ap (λ (ls : List ReportLine). count_by tells_difference ls == 0) whole ∙ same_if_none a b told
