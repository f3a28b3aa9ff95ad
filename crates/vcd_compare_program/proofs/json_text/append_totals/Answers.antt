-- The members are appended one by one.
use Rattle.std.proofs.Common.{codes, decimal}
use Rattle.std.specs.Prelude.{◌==◌}
use Rattle.std.proofs.lemmas.Result.{on_ok_weaker}
use Rattle.vcd_compare_program.specs.JsonText.{member, bool_json}
use Rattle.vcd_compare_program.proofs.json_text.Pieces.{three}
use Rattle.vcd_compare_program.proofs.json_text.append_totals.Goals as goal

pub returns : goal.returns
returns c = on_ok_weaker c.append_same.result (three c.args.text.now.items
    (member (codes "lines_that_differ") (decimal c.args.differing))
    (member (codes "same_variables") (decimal c.args.same))
    (member (codes "same") (bool_json (c.args.differing == 0))) _ _ _ c.in_ok-append_number.ensures
    c.in_ok-append_number-2.ensures) c.append_same.ensures
