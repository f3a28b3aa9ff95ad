use Rattle.std.proofs.Common.{arith}
use Rattle.vcd_core.proofs.shared.LettersOfPlanes.{length-shown}
use Rattle.vcd_core.proofs.value.Value.width_fits.Goals as goal

pub returns-clause-least : goal.returns-clause-least
returns-clause-least c = omega (arith, c.self.invariant.least, length-shown _ _ c.self.invariant c.self.view_is)

pub returns-clause-most : goal.returns-clause-most
returns-clause-most c = omega (arith, c.self.invariant.most, length-shown _ _ c.self.invariant c.self.view_is)
