-- The parts in a row are the mark.
use Rattle.vcd_text.proofs.shared.EmittedParts.{writes_both, writes_as}
use Rattle.std.proofs.Common.{refl, codes}
use Rattle.vcd_copy.proofs.marks.MarkBytes.{parts_of_mark}
use Rattle.vcd_copy.proofs.marking.write_mark.Goals as goal

pub returns : goal.returns
returns g c =
    writes_as (parts_of_mark c.args.mark.now.head c.args.mark.now.edits.now)
    (writes_both c.write_head.ensures (writes_both (c.write_lines.ensures (codes "part") refl)
    (writes_both (c.write_lines-2.ensures (codes "edit") refl) c.write_bytes.ensures.written)))
