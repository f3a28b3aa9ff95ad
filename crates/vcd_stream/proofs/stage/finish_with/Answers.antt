use Rattle.std.proofs.Common.{[], sym, ◌∙◌}
use Rattle.std.proofs.lemmas.List.{append-nil}
use Rattle.vcd_edit.specs.inside.plans.RemainingChanges.{without_repeats}
use Rattle.vcd_stream.proofs.stage.finish_with.Goals as goal

pub returns : goal.returns
unfolding without_repeats
returns g c = sym (append-nil _) ∙ c.in_ok-give.ensures []
