use Rattle.std.proofs.Common.{◌≡◌, length}
use Rattle.vcd_core.specs.FullName.{name_bytes}
use Rattle.vcd_core.specs.inside.names.TextEnd.{end_after, text_end}
use Rattle.vcd_core.proofs.names.full_name.FullName.end.Given as goal

abbrev pub invariant-loop-byte : goal.invariant-loop-byte
invariant-loop-byte l = end_after l.end (name_bytes l.name) ≡ text_end (name_bytes l.fn.self)

abbrev pub decreases-loop-byte : goal.decreases-loop-byte
decreases-loop-byte l = length (name_bytes l.name)
