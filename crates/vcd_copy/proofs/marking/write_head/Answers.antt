-- The words with what is between them.
use Rattle.std.proofs.Common.{◌∙◌}
use Rattle.vcd_text.proofs.shared.EmittedParts.{writes_both, writes_as}
use Rattle.vcd_copy.proofs.marking.write_head.Goals as goal

pub returns : goal.returns
returns g c =
    writes_both c.write_bytes.ensures.written (writes_both c.write_escaped.ensures
    (writes_both c.write_bytes-2.ensures.written (writes_both c.write_escaped-2.ensures
    (writes_both c.write_byte.ensures.written (writes_both
    (writes_as (c.as_bytes.ensures.value ∙ c.format.ensures.text) c.write_bytes-3.ensures.written)
    (writes_both c.write_bytes-4.ensures.written c.write_escaped-3.ensures))))))
