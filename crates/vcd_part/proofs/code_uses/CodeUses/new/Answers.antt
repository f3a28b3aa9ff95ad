use Rattle.std.proofs.Common.{ap, length, List, ℕ, arith}
use Rattle.vcd_part.specs.PartPieces.{each_once}
use Rattle.vcd_part.proofs.code_uses.CodeUses.new.Goals as goal

pub returns-clause-uses : goal.returns-clause-uses
unfolding each_once
returns-clause-uses c = λ r. record { uses = c.new.ensures; count = ap (length {A = List ℕ}) c.new-2.ensures }

pub returns-clause-none : goal.returns-clause-none
unfolding each_once
returns-clause-none c = λ r. record { are = c.new-2.ensures; some = λ k d within. absurd (omega arith) }
