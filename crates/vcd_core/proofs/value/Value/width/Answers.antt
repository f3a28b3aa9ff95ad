use Rattle.std.proofs.Common.{sym}
use Rattle.vcd_core.proofs.shared.LettersOfPlanes.{length-shown}
use Rattle.vcd_core.proofs.value.Value.width.Goals as goal

pub returns-clause-width : goal.returns-clause-width
returns-clause-width c = sym (length-shown _ _ c.self.invariant c.self.view_is)
