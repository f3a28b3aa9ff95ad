-- The words of the head stand in the first lines.
use Rattle.std.proofs.Common.{ap}
use Rattle.vcd_amend_program.specs.FoundMarks.{first_line}
use Rattle.vcd_amend_program.proofs.verify.AskedByMarks.{found_head}
use Rattle.vcd_amend_program.proofs.verify.find_head.Goals as goal

pub returns-clause-head : goal.returns-clause-head
returns-clause-head g c =
    found_head c.args.mark.now _ _ _ _ _ c.in_ok-head.head (ap first_line c.in-Some-Some.ensures.0)
    (ap first_line c.in-Some-Some.ensures'.0) c.in_ok-head.ensures.size c.in_ok-name.ensures.name
    c.in_ok-head.ensures.version c.in_ok-head.ensures.name c.in_ok-head.ensures.digest
