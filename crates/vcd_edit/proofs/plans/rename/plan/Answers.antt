use Rattle.vcd_edit.proofs.plans.EffectOfRecord.{rename_plan}
use Rattle.vcd_edit.proofs.plans.rename.plan.Goals as goal

pub returns-clause-plan : goal.returns-clause-plan
returns-clause-plan c =
    rename_plan c.args.capture.now c.args.signal c.args.word c.new.result.items c.extend_from_slice.new.self.items
    c.requires.sound c.requires.allowed c.new.ensures.items
    (cc (c.new-copy.ensures.items, c.in_ok-extend_from_slice.ensures.items))
