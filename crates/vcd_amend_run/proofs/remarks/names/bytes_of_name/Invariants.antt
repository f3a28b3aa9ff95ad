use Rattle.std.proofs.Common.{◌≡◌, ◌++◌, length}
use Rattle.vcd_core.specs.FullName.{name_bytes}
use Rattle.vcd_amend_run.proofs.remarks.names.bytes_of_name.Given as goal

abbrev pub invariant-loop-byte : goal.invariant-loop-byte
invariant-loop-byte l = l.bytes.items ++ name_bytes l.left ≡ name_bytes l.name

abbrev pub decreases-loop-byte : goal.decreases-loop-byte
decreases-loop-byte l = length (name_bytes l.left)
