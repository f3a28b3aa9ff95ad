-- The part before the code, the code and the line feed are the line.
use Rattle.vcd_text.specs.Text.{code_of}
use Rattle.vcd_text.proofs.writing.values.ShortForm.{line_of_value}
use Rattle.vcd_text.proofs.shared.EmittedParts.{writes_as, writes_both}
use Rattle.vcd_text.proofs.writing.values.write_value.Goals as goal

pub returns : goal.returns
returns g c = writes_as (line_of_value c.args.value.now (code_of c.args.position))
    (writes_both c.write_value_prefix.ensures (writes_both c.write_code.ensures c.write_byte.ensures.written))
