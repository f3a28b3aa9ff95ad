use Rattle.std.proofs.lemmas.Result.{err_from_is_err_and}
use Rattle.vcd_part.specs.PartEnds.{PartEnds}
use Rattle.vcd_part.proofs.part.Outcomes.{part_ends, headline_of}
use Rattle.vcd_part.proofs.part.write_part.Goals as goal

pub returns-in_err-amender-clause-ends : goal.returns-in_err-amender-clause-ends
unfolding PartEnds
returns-in_err-amender-clause-ends g c =
    let fault = err_from_is_err_and c.from_residual.result c.from_residual.ensures.1 in
    rw (fault.1, fault.2) (c.in_err-amender.ensures.fails, c.in_err-amender.ensures.begun)

pub returns-clause-ends : goal.returns-clause-ends
returns-clause-ends g c =
    let copied = c.in_ok-amender.ensures in
    part_ends c.in_ok-amender.amender c.args.request copied.request _ _ copied.reader_not_failed copied.not_failed
    copied.ended copied.copied copied.told c.outcome_of.result c.outcome_of.ensures

pub returns-clause-headline : goal.returns-clause-headline
returns-clause-headline g c =
    let copied = c.in_ok-amender.ensures in
    headline_of c.in_ok-amender.amender c.args.request copied.request _ _ copied.reader_not_failed copied.not_failed
    copied.ended copied.copied copied.told c.outcome_of.result c.outcome_of.ensures
