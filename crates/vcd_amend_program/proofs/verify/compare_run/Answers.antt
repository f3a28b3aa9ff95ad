-- What was compared is what the run wrote.
use Rattle.vcd_amend_program.proofs.verify.WrittenBytes.{written_whole, written_on_devices}
use Rattle.vcd_amend_program.proofs.verify.compare_run.Goals as goal

pub returns-clause-same : goal.returns-clause-same
returns-clause-same g c =
    written_whole c.args.run.now _ _ _ _ c.args.script.now (g.M.Source.coming c.args.marked) _ _ c.new.ensures.coming
    c.new-compared.ensures.shown c.in_ok-refuse_rest.ensures.whole c.amend_run-ended.ensures.ends
    c.in_ok-ended_with.ensures.done

pub returns-clause-on_devices : goal.returns-clause-on_devices
returns-clause-on_devices g c =
    written_on_devices c.args.run.now _ _ _ _ c.args.script.now (g.M.Source.coming c.args.marked) _ _
    c.new.ensures.coming c.new-compared.ensures.shown c.in_ok-refuse_rest.ensures.whole c.amend_run-ended.ensures.ends
    c.in_ok-ended_with.ensures.done
