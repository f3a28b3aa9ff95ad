use Rattle.std.proofs.Common.{◌∙◌}
use Rattle.vcd_compare.proofs.wave_pair.WaveFindings.new.Goals as goal

pub returns : goal.returns
returns g c wave other is_a is_b = record {
  compared = c.new.ensures wave other (c.in_ok-copied-3.ensures ∙ is_a) (c.in_ok-copied-4.ensures ∙ is_b);
  runs_of_a = c.new-runs_of_a.ensures wave c.args.bounds.first (c.in_ok-copied.ensures ∙ is_a);
  runs_of_b = c.new-runs_of_b.ensures other c.args.bounds.first (c.in_ok-copied-2.ensures ∙ is_b);
}
