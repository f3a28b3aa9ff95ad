use Rattle.std.proofs.Common.{refl, arith}
use Rattle.std.proofs.lemmas.Iterator.{items_from_collect, YieldsList-from_range}
use Rattle.vcd_amend_run.proofs.dry_running.origin_history.first_origins.Goals as goal

pub returns : goal.returns
returns c =
    let all = items_from_collect c.collect.result c.collect.ensures.ran
    (YieldsList-from_range 0 c.args.count c.args.count refl (omega arith)) in
    rw c.in_ok-collect.was at all
