use Rattle.std.proofs.Common.{◌∷◌, map, sym, ap}
use Rattle.vcd_core.specs.Wave.{change}
use Rattle.vcd_edit.specs.Operators.{not_bit}
use Rattle.vcd_edit.specs.inside.plans.RemainingChanges.{mapped_change}
use Rattle.vcd_stream.specs.Stages.{made_changes}
use Rattle.vcd_stream.proofs.shared.GoingOn.{one_given}
use Rattle.vcd_stream.proofs.stage.take_inverse.Goals as goal

pub returns : goal.returns
unfolding made_changes
returns g c =
    one_given (g.V.Letters.letters c.args.last.width) _ _ c.args.change _ _ _ c.in_ok-last.ensures
    (λ more. ap (λ v. change c.args.change.tick v ∷ map (mapped_change (map not_bit)) more)
    (sym (c.inverse-value.ensures c.args.last.width c.requires.most)))
