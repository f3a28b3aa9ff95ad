use Rattle.std.proofs.lemmas.Result.{on_ok_weaker}
use Rattle.vcd_text.proofs.reading.change_listener.ChangeListener.hear_step.Goals as goal

pub returns-in-Nothing-clause-heard : goal.returns-in-Nothing-clause-heard
returns-in-Nothing-clause-heard c = on_ok_weaker c.hear_item.result (λ hears asked s at knows. rw c.in-Nothing.is
    (hears asked s at knows)) c.hear_item.ensures.heard
