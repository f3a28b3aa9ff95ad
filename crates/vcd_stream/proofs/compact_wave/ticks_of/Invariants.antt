use Rattle.std.proofs.Common.{◌≡◌, map, take}
use Rattle.vcd_stream.proofs.compact_wave.ticks_of.Given as goal

abbrev pub invariant-loop-change : goal.invariant-loop-change
invariant-loop-change l = l.ticks.items ≡ map (λ c. c.tick) (take l.change-index l.changes)
