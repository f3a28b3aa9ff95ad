-- The bytes that are left follow those that were copied.
use Rattle.std.proofs.Common.{◌≡◌, ◌++◌, length}
use Rattle.vcd_core.specs.FullName.{name_bytes}
use Rattle.vcd_text.proofs.names.copy_name.Given as goal

abbrev pub invariant-loop-byte : goal.invariant-loop-byte
invariant-loop-byte l = l.text.items ++ name_bytes l.left ≡ name_bytes l.fn.name

abbrev pub decreases-loop-byte : goal.decreases-loop-byte
decreases-loop-byte l = length (name_bytes l.left)
