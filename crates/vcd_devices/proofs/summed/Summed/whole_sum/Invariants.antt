-- A source that was at its end is as it was.
use Rattle.std.proofs.Common.{◌≡◌, true}
use Rattle.vcd_devices.proofs.summed.Summed.whole_sum.Given as goal

abbrev pub invariant-loop : goal.invariant-loop
invariant-loop g l =
    l.initial.self.is_at_end ≡ true → (l.self.is_at_end ≡ true) × (l.self.sum ≡ l.initial.self.sum)
