use Rattle.std.proofs.Common.{◌∙◌, ap, ap₂, subst, sym, List, length}
use Rattle.vcd_compare.specs.inside.Outcomes.{compared_positions}
use Rattle.vcd_compare.specs.inside.Planning.{AllComparable, ArePairsOf}
use Rattle.vcd_compare.specs.inside.Times.{scale_between}
use Rattle.vcd_compare.specs.declared.side.Side.{Side}
use Rattle.vcd_compare.specs.declared.comparison.Outcome.{Outcome}
use Rattle.vcd_compare.proofs.comparing.prepare.Goals as goal

pub returns-clause-prepared : goal.returns-clause-prepared
returns-clause-prepared c s t at_s at_t =
    let lent = c.as_slice.ensures.value in
    record {
      scale = c.scale_of-scale.ensures ∙ ap₂ scale_between (c.timescale.ensures s at_s) (c.timescale-2.ensures t at_t);
      ticks = record {
        tolerance = c.new-ticks.ensures.tolerance;
        first = c.new-ticks.ensures.first;
        last = c.new-ticks.ensures.last;
      };
      plan = λ a b own other. c.in_ok-plan.ensures s t a b at_s at_t own other;
      factor = ap (λ (x : Side). x.factor) c.with_factor.ensures;
      other_factor = ap (λ (x : Side). x.factor) c.with_factor-2.ensures;
      bounds = c.in_ok-pairs.ensures.bounds ∙ c.bounds.ensures;
      positions = c.in_ok-pairs.ensures.positions
          ∙ ap (λ (os : List Outcome). compared_positions (length os) os) lent;
      pairs = λ are. subst (λ b. ArePairsOf b s.declared t.declared c.in_ok-pairs.pairs)
          (sym c.in_ok-pairs.ensures.bounds)
          (c.in_ok-pairs.ensures.pairs s t at_s at_t
          (subst (AllComparable s.declared t.declared) (sym lent) are));
    }
