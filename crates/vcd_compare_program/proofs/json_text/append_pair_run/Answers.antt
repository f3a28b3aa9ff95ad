-- The pieces are appended one by one.
use Rattle.std.proofs.Common.{codes, ◌∙◌, ◌++◌, ap, List, ℕ}
use Rattle.std.proofs.lemmas.Result.{on_ok_weaker}
use Rattle.vcd_compare_program.specs.JsonText.{variable_begin, member_name, run_json}
use Rattle.vcd_compare_program.specs.ReportLines.{facts_in}
use Rattle.vcd_compare_program.specs.inside.Facts.{facts_of}
use Rattle.vcd_compare_program.proofs.json_text.Pieces.{four}
use Rattle.vcd_compare_program.proofs.json_text.append_pair_run.Goals as goal

pub returns : goal.returns
returns c =
    let name = (facts_in (facts_of c.args.first.now) c.args.pair.now.first).name in
    on_ok_weaker c.append_bytes.result (four c.args.text.now.items (variable_begin (codes "short run") name)
    (member_name (codes "ticks")) (run_json c.args.pair.now.short_run) (codes "}") _ _ _ _
    (c.in_ok-append_variable.ensures
    ∙ ap (λ (n : List ℕ). c.args.text.now.items ++ variable_begin (codes "short run") n) c.name.ensures)
    c.in_ok-append_member.ensures c.in_ok-append_run.ensures) c.append_bytes.ensures
