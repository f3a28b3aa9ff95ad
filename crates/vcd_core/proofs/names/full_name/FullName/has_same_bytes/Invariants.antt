use Rattle.std.proofs.Common.{◌≡◌, length}
use Rattle.std.specs.Str.{bytes_eq}
use Rattle.vcd_core.specs.FullName.{name_bytes}
use Rattle.vcd_core.proofs.names.full_name.FullName.has_same_bytes.Given as goal

abbrev pub invariant-loop-byte : goal.invariant-loop-byte
invariant-loop-byte l =
    bytes_eq (name_bytes l.mine) (name_bytes l.others) ≡ bytes_eq (name_bytes l.fn.self) (name_bytes l.fn.other)

abbrev pub decreases-loop-byte : goal.decreases-loop-byte
decreases-loop-byte l = length (name_bytes l.mine)
