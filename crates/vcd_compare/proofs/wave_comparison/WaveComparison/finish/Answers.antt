use Rattle.std.proofs.Common.{◌∙◌, ap, ◌++◌, ◌∷◌, [], arith}
use Rattle.vcd_compare.specs.Differences.{summary}
use Rattle.vcd_compare.proofs.shared.Steps.{finish_one, finish_none}
use Rattle.vcd_compare.proofs.wave_comparison.WaveComparison.finish.Goals as goal
use Rattle.vcd_compare.proofs.wave_comparison.WaveComparison.finish.Goals.{in-Some, in_default}

pub returns : goal.returns
returns g c tolerance wave other first t upto small is keep_a keep_b =
    let same = g.V.PartialEq.eq in
    elim c.match-open_difference.branch [
      | in-Some w ↦
          finish_one same tolerance wave other first t c.args.last c.args.self w.in-Some.begun _ w.in-Some.is upto is
          keep_a keep_b
          (λ before few was. w.found-is ∙ w.add.ensures before (omega arith) was
          ∙ ap (λ d. summary (before ++ d ∷ [])) w.ended_by.ensures)
      | in_default w ↦
          w.found-is ∙ finish_none same tolerance wave other first t c.args.last c.args.self w.in_default.is upto is
          keep_a keep_b
    ]
