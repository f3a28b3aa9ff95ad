use Rattle.std.proofs.Common.{arith}
use Rattle.vcd_core.proofs.wave.searching.ChangesUpToTick.{early_before}
use Rattle.vcd_core.proofs.wave.searching.search_start.Goals as goal

pub returns-else-changes-index-clause-earlier : goal.returns-else-changes-index-clause-earlier
returns-else-changes-index-clause-earlier c =
    early_before c.requires.form.0 _ c.requires.form.1 c.args.tick c.loop-index.index c.index-changes-index.result
    (omega arith) (omega arith) c.if-changes-index.false
