use Rattle.std.proofs.Common.{ap₂, ◌∙◌}
use Rattle.vcd_compare.specs.ShortestRun.{short_of}
use Rattle.vcd_compare.proofs.wave_pair.WaveFindings.finish.Goals as goal

pub returns-clause-differences : goal.returns-clause-differences
returns-clause-differences g c wave other first t upto small is keep_a keep_b =
    c.finish.ensures c.args.tolerance wave other first t upto small is.compared keep_a keep_b

pub returns-clause-short_run : goal.returns-clause-short_run
returns-clause-short_run g c wave other first t upto is keep_a keep_b =
    c.short_of.ensures
    ∙ ap₂ (short_of c.args.tolerance) (c.finish-2.ensures wave first t upto is.runs_of_a keep_a)
    (c.finish-3.ensures other first t upto is.runs_of_b keep_b)
