-- The pieces are appended one by one.
use Rattle.std.proofs.Common.{codes, decimal}
use Rattle.std.proofs.lemmas.Result.{on_ok_weaker}
use Rattle.vcd_compare_program.specs.JsonText.{left_out_begin, member}
use Rattle.vcd_compare_program.proofs.json_text.Pieces.{three}
use Rattle.vcd_compare_program.proofs.json_text.append_left_out.Goals as goal

pub returns : goal.returns
returns c = on_ok_weaker c.append_bytes.result (three c.args.text.now.items
    (left_out_begin c.args.what.now) (member (codes "replaced") (decimal c.args.left_out.replaced)) (codes "}") _ _ _
    c.in_ok-append_left_out_begin.ensures c.in_ok-append_number.ensures) c.append_bytes.ensures
