use Rattle.vcd_part.proofs.amender.PartAmenderAmender.settle.Goals as goal

pub returns-in-Stamp-clause-goes : goal.returns-in-Stamp-clause-goes
returns-in-Stamp-clause-goes g c = λ goes limit before p seen next.
    c.settle_stamp.ensures.goes goes limit before p c.args.code.now seen (rw c.in-Stamp.is at next)
