use Rattle.std.proofs.Common.{sym, ◌∙◌}
use Rattle.vcd_stream.specs.Stages.{seen, made_changes}
use Rattle.vcd_stream.proofs.shared.GoingOn.{one_given, none_given}
use Rattle.vcd_stream.proofs.shared.TakenChanges.{run_stays, run_goes}
use Rattle.vcd_stream.proofs.stage.take_run.Goals as goal

pub returns-then-not-begins_steady_before : goal.returns-then-not-begins_steady_before
unfolding made_changes
returns-then-not-begins_steady_before g c =
    let letters = g.V.Letters.letters c.args.last.width in
    none_given letters _ _ c.args.change _
    (λ more. run_goes c.args.ticks (seen letters c.args.held) (seen letters c.args.change) more
    (sym c.begins_steady_before.ensures ∙ c.if-not-begins_steady_before.true))

pub returns : goal.returns
unfolding made_changes
returns g c =
    let letters = g.V.Letters.letters c.args.last.width in
    one_given letters _ _ c.args.change _ _ _ c.in_ok-last.ensures
    (λ more. run_stays c.args.ticks (seen letters c.args.held) (seen letters c.args.change) more
    (sym c.begins_steady_before.ensures ∙ c.if-not-begins_steady_before.false))
