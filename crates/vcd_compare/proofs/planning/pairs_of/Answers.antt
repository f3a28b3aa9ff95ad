use Rattle.std.proofs.Common.{◌∙◌}
use Rattle.vcd_compare.proofs.planning.pairs_of.Goals as goal

pub returns-clause-pairs : goal.returns-clause-pairs
returns-clause-pairs c s t at_s at_t are =
    c.in_ok-pairs.ensures.pairs s.declared t.declared (c.deref.ensures.value ∙ c.in_ok-variables.ensures s at_s)
    (c.deref-2.ensures.value ∙ c.in_ok-others.ensures t at_t) are
