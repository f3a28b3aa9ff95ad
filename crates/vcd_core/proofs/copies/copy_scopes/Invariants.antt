use Rattle.std.proofs.Common.{◌≡◌, take}
use Rattle.vcd_core.proofs.copies.copy_scopes.Given as goal

abbrev pub invariant-loop-scope : goal.invariant-loop-scope
invariant-loop-scope l = l.copies.items ≡ take l.scope-index l.scopes
