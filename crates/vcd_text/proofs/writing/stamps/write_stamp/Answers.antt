-- `#`, the digits and a line feed are the line.
use Rattle.std.proofs.Common.{◌∙◌}
use Rattle.vcd_text.proofs.shared.EmittedParts.{writes_as, writes_both}
use Rattle.vcd_text.proofs.writing.stamps.write_stamp.Goals as goal

pub returns : goal.returns
returns g c = writes_both c.write_byte.ensures.written (writes_both (writes_as (c.as_bytes.ensures.value
    ∙ c.format.ensures.text) c.write_bytes.ensures.written) c.write_byte-2.ensures.written)
