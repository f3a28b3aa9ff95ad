use Rattle.std.proofs.Common.{ℕ, map, All}
use Rattle.vcd_core.specs.Wave.{AllUpTo}
use Rattle.vcd_edit.specs.inside.plans.Derive.{edge_change, HasBits, DerivedSoFar}
use Rattle.vcd_edit.proofs.plans.derive.DerivedSignal.{pair_edges}
use Rattle.vcd_edit.proofs.plans.derive.wave_of_two.Given as goal

-- the wave and the remaining edges are all
abbrev pub invariant-loop-edge : goal.invariant-loop-edge
invariant-loop-edge l =
    All HasBits l.edge-iterator × ((end : ℕ) → AllUpTo end l.fn.first.changes → AllUpTo end l.fn.last.changes
    → DerivedSoFar (map (edge_change l.fn.operator) (pair_edges l.fn.operator l.fn.first l.fn.last end))
    (map (edge_change l.fn.operator) l.edge-iterator) l.wave)
