use Rattle.std.proofs.Common.{refl, subst}
use Rattle.vcd_compare.specs.inside.Pairs.{IsToldOf}
use Rattle.vcd_compare.specs.declared.pairs.ComparedPair.{ComparedPair}
use Rattle.vcd_compare.proofs.pairs.SignalPair.finish.Goals as goal

pub returns : goal.returns
returns c small =
    let told : ComparedPair = record {
      first = c.self.inside.first;
      second = c.self.inside.second;
      differences = c.in_ok-differences.differences;
      short_run = c.in_ok-differences.short_run;
    } in
    subst (λ p. IsToldOf c.args.bounds c.args.last p told) c.self.view_is
    (record { first = refl; second = refl; waves = c.in_ok-differences.ensures small })
