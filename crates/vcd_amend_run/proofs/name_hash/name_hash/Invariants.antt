use Rattle.std.proofs.Common.{◌≡◌, length}
use Rattle.vcd_core.specs.FullName.{name_bytes}
use Rattle.vcd_amend_run.specs.inside.NameHash.{hash_after, name_hash}
use Rattle.vcd_amend_run.proofs.name_hash.name_hash.Given as goal

abbrev pub invariant-loop-byte : goal.invariant-loop-byte
invariant-loop-byte l = hash_after l.hash (name_bytes l.left) ≡ name_hash (name_bytes l.fn.name)

abbrev pub decreases-loop-byte : goal.decreases-loop-byte
decreases-loop-byte l = length (name_bytes l.left)
