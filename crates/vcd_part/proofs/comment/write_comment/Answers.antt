-- The words of the comment, with a space between each two.
use Rattle.vcd_text.proofs.shared.EmittedParts.{writes_both}
use Rattle.vcd_part.proofs.comment.write_comment.Goals as goal

pub returns : goal.returns
returns g c = λ space.
    writes_both c.write_bytes.ensures.written (writes_both c.write_number.ensures
    (writes_both c.write_bytes-2.ensures.written (writes_both c.write_last.ensures
    (writes_both c.write_bytes-3.ensures.written (writes_both c.write_number-2.ensures
    (writes_both c.write_bytes-4.ensures.written (writes_both c.write_number-3.ensures
    c.write_bytes-5.ensures.written)))))))
