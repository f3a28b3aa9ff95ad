use Rattle.std.proofs.Common.{◌≡◌, map, take}
use Rattle.vcd_stream.proofs.compact_wave.compact_values.values_of.Given as goal

abbrev pub invariant-loop-change : goal.invariant-loop-change
invariant-loop-change g l = map (g.V.Letters.letters l.wave.width) l.values.items
    ≡ map (λ c. c.value) (take l.change-index l.changes)
