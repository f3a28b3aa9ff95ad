use Rattle.std.proofs.Common.{arith}
use Rattle.vcd_amend.specs.AmendmentContents.{code_contents}
use Rattle.vcd_amend.proofs.amending.LastChange.{needed_by}
use Rattle.vcd_amend.proofs.amending.moments.moment_at.Goals as goal

pub returns-clause-needed : goal.returns-clause-needed
returns-clause-needed c =
    let needed = needed_by (code_contents c.args.code.now) c.args.tick in
    grind (arith, needed)
