use Rattle.std.proofs.Common.{◌≡◌, true, refl, rules}
use Rattle.vcd_amend_run.proofs.planned_lines.FedReplies.{not_opened}
use Rattle.vcd_amend_run.proofs.planned_lines.feeding.open_again.Goals as goal

pub returns-in-Err-clause-fails : goal.returns-in-Err-clause-fails
returns-in-Err-clause-fails g c =
    let failed : g.O.Reopen.has_failed c.open.new.self ≡ true = search rules in
    (rw (failed, c.at.ensures) (not_opened _), refl)
