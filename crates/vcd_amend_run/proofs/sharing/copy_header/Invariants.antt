use Rattle.std.proofs.Common.{◌≡◌, take}
use Rattle.vcd_amend_run.proofs.sharing.copy_header.Given as goal

abbrev pub invariant-loop-entry : goal.invariant-loop-entry
invariant-loop-entry l = l.copies.items ≡ take l.entry-index l.header
