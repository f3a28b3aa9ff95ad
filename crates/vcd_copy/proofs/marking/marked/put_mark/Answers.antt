use Rattle.vcd_text.proofs.shared.EmittedParts.{writes_both}
use Rattle.vcd_copy.proofs.marking.marked.put_mark.Goals as goal

pub returns-clause-written : goal.returns-clause-written
returns-clause-written g c = λ before seen.
    writes_both (c.write_before.ensures before seen) (writes_both c.write_bytes.ensures.written c.write_mark.ensures)
