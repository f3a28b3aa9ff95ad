use Rattle.std.proofs.Common.{ap, ◌∙◌}
use Rattle.std.specs.Global.{Vec}
use Rattle.std.proofs.lemmas.Result.{on_ok_weaker}
use Rattle.vcd_text.specs.declared.reading.log.LoggedChange.{LoggedChange}
use Rattle.vcd_text.proofs.reading.log.MovedToWaves.{moved_match}
use Rattle.vcd_text.proofs.reading.variables.Variables.move_log.Goals as goal

pub returns-clause-same : goal.returns-clause-same
returns-clause-same c =
    on_ok_weaker c.move_log_to_waves.result
    (λ d state k.
    moved_match c.args.self.now c.move_log_to_waves.new.kept c.replace-groups.new.dest state k
    (ap (λ (gs : Vec (Vec LoggedChange)). gs.items) c.replace-groups.ensures.after ∙ c.new.ensures.items)
    (rw c.replace-groups.ensures.value at d)) c.move_log_to_waves.ensures
