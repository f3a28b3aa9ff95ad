-- A reading that was at its end has the sum that was found.
use Rattle.std.proofs.Common.{sym}
use Rattle.vcd_amend_program.proofs.again.Readings.with_reading.Goals as goal

pub returns-clause-one_more : goal.returns-clause-one_more
returns-clause-one_more g c = λ sum have at_end begun.
    (sym (rw (c.with_sum.ensures.one_more sum have) at (c.whole_sum.ensures.unread at_end)), at_end)
