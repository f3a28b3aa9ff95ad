use Rattle.std.proofs.Common.{◌∷◌, [], ◌∙◌, ap, sym, arith, ℕ, List, Option}
use Rattle.vcd_text.specs.Grammar.{kept_variables}
use Rattle.vcd_amend_run.specs.inside.FileLines as spec
use Rattle.vcd_amend_run.proofs.line_pass.GivenChanges.{four_lines}
use Rattle.vcd_amend_run.proofs.line_pass.file_lines.firsts_of.Goals as goal

pub returns : goal.returns
returns c s at =
    let lines : List (Option ℕ) = c.args.lines in
    (λ i. c.first_of_line.ensures s at i ∷ c.first_of_line-2.ensures s at i ∷ c.first_of_line-3.ensures s at i
    ∷ c.first_of_line-4.ensures s at i ∷ [])
    ∙ ap (spec.firsts_of (kept_variables s.declared)) (sym (four_lines lines (omega arith)))
