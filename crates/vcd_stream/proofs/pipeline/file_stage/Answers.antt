use Rattle.std.proofs.Common.{ap, ◌∙◌}
use Rattle.vcd_core.specs.Wave.{change}
use Rattle.vcd_edit.specs.inside.plans.RemainingChanges.{without_repeats}
use Rattle.vcd_stream.specs.Stages.{given, made_changes, last_at_ticks}
use Rattle.vcd_stream.proofs.shared.EditedWaves.{of_file_is}
use Rattle.vcd_stream.proofs.pipeline.file_stage.Goals as goal

pub returns : goal.returns
unfolding given made_changes
returns g c = λ end fed stay upto.
    ap (λ v. without_repeats v (last_at_ticks (change 0 v) fed)) c.x_value-x.ensures
    ∙ of_file_is c.args.width end fed stay upto
