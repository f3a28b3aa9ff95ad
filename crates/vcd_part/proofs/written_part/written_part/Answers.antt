use Rattle.vcd_part.proofs.written_part.SaidOfParts.{said_of_part}
use Rattle.vcd_part.proofs.written_part.written_part.Goals as goal

pub returns : goal.returns
returns c = said_of_part c.args.amender c.args.window c.ends_early.result c.still_shown.result
    c.events_left_out_at_first.result c.emptied.result c.begins_later.result c.ends_early.ensures
    c.begins_later.ensures c.still_shown.ensures c.events_left_out_at_first.ensures c.emptied.ensures
