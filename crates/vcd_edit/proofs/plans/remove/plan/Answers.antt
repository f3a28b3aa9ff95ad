use Rattle.vcd_edit.proofs.plans.EffectOfRecord.{remove_plan}
use Rattle.vcd_edit.proofs.plans.remove.plan.Goals as goal

pub returns-clause-plan : goal.returns-clause-plan
returns-clause-plan c =
    remove_plan c.args.capture.now c.args.signal c.new.result.items c.requires.sound c.requires.allowed
    c.new.ensures.items
