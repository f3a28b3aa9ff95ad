use Rattle.std.proofs.Common.{◌∷◌, map, sym, ap}
use Rattle.vcd_core.specs.Wave.{change}
use Rattle.vcd_stream.specs.Stages.{made_changes, earlier_change}
use Rattle.vcd_stream.proofs.shared.GoingOn.{one_given}
use Rattle.vcd_stream.proofs.stage.take_earlier.Goals as goal

pub returns : goal.returns
unfolding made_changes
returns g c =
    let letters = g.V.Letters.letters c.args.last.width in
    one_given letters _ _ c.args.change _ _ _ c.in_ok-last.ensures
    (λ more. ap (λ t. change t (letters c.args.change.value) ∷ map (earlier_change c.args.by) more)
    (sym c.saturating_sub-tick.ensures))
