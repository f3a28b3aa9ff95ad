use Rattle.std.proofs.Common.{sym, ◌∙◌}
use Rattle.vcd_compare.proofs.shortest_word.Words.{few, kept, dropped}
use Rattle.vcd_compare.proofs.shortest_word.shortest_word.Goals as goal

pub returns-then-not-is_implied : goal.returns-then-not-is_implied
returns-then-not-is_implied c = kept c.loop-rest.rest.now c.in-len2-up.len_at_least
    (sym c.is_implied.ensures ∙ c.if-not-is_implied.true) ∙ c.loop-rest.invariant

pub loop-rest-preserved : goal.loop-rest-preserved
loop-rest-preserved c = dropped c.loop-rest.rest.now c.in-len2-up.len_at_least
    (sym c.is_implied.ensures ∙ c.if-not-is_implied.false) ∙ c.loop-rest.invariant

pub returns : goal.returns
returns c = few c.loop-rest.rest.now c.in_default.len_below ∙ c.loop-rest.invariant
