use Rattle.vcd_compare.proofs.walk.Failures.{first_fails}
use Rattle.vcd_compare.proofs.comparing.open.Goals as goal

pub returns-in-Err-clause-fails : goal.returns-in-Err-clause-fails
returns-in-Err-clause-fails g c =
    first_fails _ _ _ _ c.in-Err.error _ _ _ c.of_first.ensures c.in-Err.ensures.refused

pub returns-in-Err-open-clause-fails : goal.returns-in-Err-open-clause-fails
returns-in-Err-open-clause-fails g c =
    c.fault_of_second.ensures _ _ _ _ c.in-Ok.ensures.opened.state _ c.in-Ok.ensures.opened.at
    c.in-Err-open.ensures.refused
