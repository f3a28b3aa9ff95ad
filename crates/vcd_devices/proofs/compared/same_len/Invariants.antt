-- The bytes passed are the same.
use Rattle.std.proofs.Common.{◌≡◌, ◌+◌, ◌==◌, drop}
use Rattle.std.specs.List.{common_prefix_len}
use Rattle.vcd_devices.proofs.compared.same_len.Given as goal

abbrev pub invariant-loop-i : goal.invariant-loop-i
invariant-loop-i l = common_prefix_len (λ a b. a == b) l.bytes l.found
    ≡ l.i + common_prefix_len (λ a b. a == b) (drop l.i l.bytes) (drop l.i l.found)
