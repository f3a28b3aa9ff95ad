use Rattle.std.proofs.Common.{map, drop}
use Rattle.vcd_edit.specs.inside.plans.Derive.{selected_change, DerivedSoFar}
use Rattle.vcd_edit.proofs.plans.derive.wave_of_one.Given as goal

-- the wave and the remaining changes are all
abbrev pub invariant-loop-change : goal.invariant-loop-change
invariant-loop-change l =
    DerivedSoFar (map (selected_change l.k l.polarity) l.operand.changes)
    (map (selected_change l.k l.polarity) (drop l.change-index l.operand.changes)) l.wave
