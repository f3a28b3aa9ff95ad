-- The pieces are appended one by one.
use Rattle.std.proofs.Common.{codes, ◌∙◌, ◌++◌, ap, ap₂, List, ℕ}
use Rattle.std.specs.Prelude.{count_by}
use Rattle.vcd_compare.specs.declared.pairs.ComparedPair.{ComparedPair}
use Rattle.vcd_compare_program.specs.declared.report_line.ReportLine.{ReportLine}
use Rattle.vcd_compare_program.specs.JsonText.{head_json, lines_json, member_name, totals_json}
use Rattle.vcd_compare_program.specs.ReportLines.{difference_count, report_lines, same_count, tells_difference}
use Rattle.vcd_compare_program.specs.inside.Facts.{facts_of}
use Rattle.vcd_compare_program.proofs.json_text.Pieces.{five}
use Rattle.vcd_compare_program.proofs.json_text.comparison_json.Goals as goal

pub returns : goal.returns
returns c = λ whole.
    let a = facts_of c.args.first.now in
    let b = facts_of c.args.second.now in
    let told = c.args.comparison.now in
    let differing = c.difference_count.ensures ∙ ap (λ (ls : List ReportLine). count_by tells_difference ls) whole in
    let same = c.same_count-same.ensures
    ∙ ap (λ (ps : List ComparedPair). same_count a b ps) c.as_slice.ensures.value in
    five (head_json a b told) (member_name (codes "lines")) (lines_json a b told (report_lines a b told))
    (totals_json (difference_count a b told) (same_count a b told.compared.items)) (codes "}\n") _ _ _ _ _
    (c.in_ok-append_head.ensures ∙ ap (λ (l : List ℕ). l ++ head_json a b told) c.new-text.ensures.items)
    c.in_ok-append_member.ensures
    (c.in_ok-append_lines.ensures ∙ ap (λ (ls : List ReportLine). c.append_member.new.text.items
    ++ lines_json a b told ls) whole)
    (c.in_ok-append_totals.ensures ∙ ap₂ (λ n m. c.append_lines.new.text.items ++ totals_json n m) differing same)
    c.in_ok-append_bytes.ensures
