use Rattle.std.proofs.Common.{ap, sym, ◌∙◌}
use Rattle.vcd_amend_run.specs.inside.NameHash.{hash_after}
use Rattle.vcd_amend_run.proofs.name_hash.name_hash.Goals as goal

pub loop-byte-preserved : goal.loop-byte-preserved
unfolding hash_after
loop-byte-preserved c = ap (hash_after c.loop-byte.hash) (sym c.in-Some.ensures.next) ∙ c.loop-byte.invariant

pub returns : goal.returns
unfolding hash_after
returns c = ap (hash_after c.loop-byte.hash) (sym c.in_default.ensures.next) ∙ c.loop-byte.invariant
