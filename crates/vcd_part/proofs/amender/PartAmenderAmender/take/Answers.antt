use Rattle.std.proofs.lemmas.Result.{on_ok_weaker}
use Rattle.vcd_part.proofs.amender.PartAmenderAmender.take.Goals as goal

pub returns-in-Variable-clause-written : goal.returns-in-Variable-clause-written
returns-in-Variable-clause-written g c = on_ok_weaker c.take_variable.result (λ holds limit before p seen taken.
    holds limit before p c.args.ended.now.code.now seen (rw c.in-Variable.is at taken)) c.take_variable.ensures.written

pub returns-in-Variable-clause-seen : goal.returns-in-Variable-clause-seen
returns-in-Variable-clause-seen g c = on_ok_weaker c.take_variable.result (λ holds limit before p seen taken.
    holds limit before p c.args.ended.now.code.now seen (rw c.in-Variable.is at taken)) c.take_variable.ensures.seen

pub returns-in-EndDefinitions-clause-written : goal.returns-in-EndDefinitions-clause-written
returns-in-EndDefinitions-clause-written g c = λ limit before p seen taken.
    c.end_declarations.ensures.written limit before p c.in-EndDefinitions.open_scopes c.args.ended.now.code.now
    c.args.ended.now.scopes.now
    seen (rw c.in-EndDefinitions.is at taken)

pub returns-in-EndDefinitions-clause-seen : goal.returns-in-EndDefinitions-clause-seen
returns-in-EndDefinitions-clause-seen g c = λ limit before p seen taken.
    c.end_declarations.ensures.seen limit before p c.in-EndDefinitions.open_scopes c.args.ended.now.code.now
    c.args.ended.now.scopes.now
    seen (rw c.in-EndDefinitions.is at taken)

pub returns-in-Stamp-clause-written : goal.returns-in-Stamp-clause-written
returns-in-Stamp-clause-written g c = on_ok_weaker c.take_stamp.result (λ holds limit before p seen taken.
    holds limit before p c.args.ended.now.code.now c.args.ended.now.scopes.now seen (rw c.in-Stamp.is at taken))
    c.take_stamp.ensures.written

pub returns-in-Stamp-clause-seen : goal.returns-in-Stamp-clause-seen
returns-in-Stamp-clause-seen g c = on_ok_weaker c.take_stamp.result (λ holds limit before p seen taken.
    holds limit before p c.args.ended.now.code.now c.args.ended.now.scopes.now seen (rw c.in-Stamp.is at taken))
    c.take_stamp.ensures.seen
