use Rattle.std.proofs.Common.{◌≡◌, ◌*◌, take}
use Rattle.std.specs.List.{fold}
use Rattle.vcd_devices.specs.Sums.{with_byte}
use Rattle.vcd_devices.proofs.summed.sum_with.Given as goal

abbrev pub invariant-loop-eight : goal.invariant-loop-eight
invariant-loop-eight l = l.sum ≡ fold with_byte l.fn.sum (take (8 * l.eight-index) l.bytes)
