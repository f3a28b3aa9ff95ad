use Rattle.std.proofs.Common.{refl}
use Rattle.std.proofs.lemmas.Result.{on_ok_weaker}
use Rattle.vcd_amend.proofs.amending.UsedCodes.{used_put}
use Rattle.vcd_amend.proofs.amending.code_uses.use_code.Goals as goal

pub returns-clause-used : goal.returns-clause-used
returns-clause-used c = on_ok_weaker c.insert.result
    (used_put c.args.uses.now c.insert.new.self c.args.code.now _ refl) c.insert.ensures
