use Rattle.std.proofs.Common.{[], ◌∙◌}
use Rattle.std.proofs.lemmas.Result.{on_ok_weaker}
use Rattle.vcd_stream.specs.Stages.{shown_changes, replaced_changes}
use Rattle.vcd_stream.proofs.stage.finish_replaced.Goals as goal

pub returns : goal.returns
unfolding replaced_changes
returns g c = on_ok_weaker c.finish_hidden.result
    (λ told. told
    ∙ c.in_ok-value.ensures
    (shown_changes c.args.replacement.ticks (g.V.Letters.letters c.args.last.width c.args.now) []))
    c.finish_hidden.ensures
