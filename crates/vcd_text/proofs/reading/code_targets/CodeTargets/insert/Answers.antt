use Rattle.std.proofs.Common.{sym}
use Rattle.std.proofs.lemmas.Result.{on_ok_weaker}
use Rattle.vcd_text.proofs.reading.code_targets.ShortCodes.{short_put}
use Rattle.vcd_text.proofs.reading.code_targets.CodeTargets.insert.Goals as goal

pub returns-in-Some : goal.returns-in-Some
returns-in-Some g c =
    on_ok_weaker c.put_at.result
    (short_put c.args.self.now c.put_at.new.table c.args.code.now c.in-Some.index c.args.target
    (sym c.in-Some.ensures.index)) c.put_at.ensures.target
