use Rattle.std.proofs.Common.{refl, sym, ap, ◌∙◌}
use Rattle.vcd_compare.specs.ShortestRun.{least_distance}
use Rattle.vcd_compare.proofs.shared.ShortestRuns.{turns_kept}
use Rattle.vcd_compare.proofs.shortest_run.ShortestRun.finish.Goals as goal

pub returns : goal.returns
returns g c wave first t upto is keeps =
    let same = g.V.PartialEq.eq in
    is.shortest
    ∙ ap least_distance (sym (turns_kept same (λ v. (g.met.V.ComparedValue.decides v v).1 refl) wave first t
    c.args.last is.from upto keeps))
