-- The members are appended one by one.
use Rattle.std.proofs.Common.{codes, decimal, ◌∙◌, ◌++◌, ap, Option}
use Rattle.std.proofs.lemmas.Result.{on_ok_weaker}
use Rattle.vcd_compare.specs.VariableDifferences.{VariableValue, count_of, first_of, last_of}
use Rattle.vcd_compare.specs.declared.differences.Difference.{Difference}
use Rattle.vcd_compare_program.specs.JsonText.{member, difference_json}
use Rattle.vcd_compare_program.proofs.json_text.Pieces.{three}
use Rattle.vcd_compare_program.proofs.json_text.append_differences.Goals as goal

pub returns : goal.returns
returns c =
    let ds = c.args.differences.now in
    on_ok_weaker c.append_difference-2.result (λ last. three c.args.text.now.items
    (member (codes "count") (decimal (count_of ds))) (difference_json (codes "first") (first_of ds))
    (difference_json (codes "last") (last_of ds)) _ _ _
    (c.in_ok-append_number.ensures
    ∙ ap (λ n. c.args.text.now.items ++ member (codes "count") (decimal n)) c.count.ensures)
    (c.in_ok-append_difference.ensures ∙ ap (λ (d : Option (Difference VariableValue)).
    c.append_number.new.text.items ++ difference_json (codes "first") d) c.first.ensures)
    (last ∙ ap (λ (d : Option (Difference VariableValue)).
    c.append_difference.new.text.items ++ difference_json (codes "last") d) c.last.ensures))
    c.append_difference-2.ensures
