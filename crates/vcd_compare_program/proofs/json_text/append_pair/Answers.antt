-- The pieces are appended one by one.
use Rattle.std.proofs.Common.{codes, ◌∙◌, ◌++◌, ap, List, ℕ}
use Rattle.std.proofs.lemmas.Result.{on_ok_weaker}
use Rattle.vcd_compare_program.specs.JsonText.{variable_begin, differences_json}
use Rattle.vcd_compare_program.specs.ReportLines.{facts_in}
use Rattle.vcd_compare_program.specs.inside.Facts.{facts_of}
use Rattle.vcd_compare_program.proofs.json_text.Pieces.{three}
use Rattle.vcd_compare_program.proofs.json_text.append_pair.Goals as goal

pub returns : goal.returns
returns c =
    let name = (facts_in (facts_of c.args.first.now) c.args.pair.now.first).name in
    on_ok_weaker c.append_bytes.result (three c.args.text.now.items (variable_begin (codes "values") name)
    (differences_json c.args.pair.now.differences) (codes "}") _ _ _ (c.in_ok-append_variable.ensures
    ∙ ap (λ (n : List ℕ). c.args.text.now.items ++ variable_begin (codes "values") n) c.name.ensures)
    c.in_ok-append_differences.ensures) c.append_bytes.ensures
