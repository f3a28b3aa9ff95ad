use Rattle.vcd_text.proofs.shared.EmittedParts.{writes_both}
use Rattle.vcd_copy.proofs.copying.pieces.write_before_item.Goals as goal

pub returns-clause-written : goal.returns-clause-written
returns-clause-written g c = λ before known seen is.
    writes_both (c.write_standing.ensures known is) (c.write_before.ensures before seen)
