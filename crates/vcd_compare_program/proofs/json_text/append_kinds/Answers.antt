-- The pieces are appended one by one.
use Rattle.std.proofs.Common.{codes, ◌∙◌, ◌++◌, ap, List, ℕ}
use Rattle.std.proofs.lemmas.Result.{on_ok_weaker}
use Rattle.vcd_compare_program.specs.JsonText.{variable_begin, member_name, both_json, string_json}
use Rattle.vcd_compare_program.specs.ReportLines.{facts_in}
use Rattle.vcd_compare_program.specs.inside.Facts.{facts_of}
use Rattle.vcd_compare_program.proofs.json_text.Pieces.{four}
use Rattle.vcd_compare_program.proofs.json_text.append_kinds.Goals as goal

pub returns : goal.returns
returns c =
    let variable = facts_in (facts_of c.args.first.now) c.args.position in
    on_ok_weaker c.append_bytes.result (four c.args.text.now.items (variable_begin (codes "kind") variable.name)
    (member_name (codes "kinds")) (both_json (string_json variable.kind) (string_json c.args.other.now)) (codes "}")
    _ _ _ _
    (c.in_ok-append_variable.ensures
    ∙ ap (λ (n : List ℕ). c.args.text.now.items ++ variable_begin (codes "kind") n) c.name.ensures)
    c.in_ok-append_member.ensures
    (c.in_ok-append_strings.ensures ∙ ap (λ (k : List ℕ). c.append_member.new.text.items
    ++ both_json (string_json k) (string_json c.args.other.now)) c.kind.ensures)) c.append_bytes.ensures
