-- The stamp, the two words and the values between them are the items.
use Rattle.std.proofs.Common.{arith}
use Rattle.std.proofs.lemmas.Grind.{flat_map-append}
use Rattle.vcd_text.proofs.shared.EmittedParts.{writes_as, writes_both}
use Rattle.vcd_text.proofs.writing.first_values.write_first_values.Goals as goal

pub returns : goal.returns
returns g c =
    writes_as (grind (arith, flat_map-append))
    (writes_both c.write_stamp.ensures (writes_both c.write_bytes.ensures.written
    (writes_both c.write_all_values.ensures c.write_bytes-2.ensures.written)))
