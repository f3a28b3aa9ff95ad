use Rattle.std.proofs.Common.{◌≡◌, ◌++◌, take}
use Rattle.std.specs.Prelude.{codes}
use Rattle.std.specs.List.{flat_map}
use Rattle.std.specs.Fmt.{decimal}
use Rattle.vcd_remarks.proofs.findings.telling.append_others.Given as goal

abbrev pub invariant-loop-tick : goal.invariant-loop-tick
invariant-loop-tick l = l.text.items
    ≡ l.initial.text.items ++ flat_map (λ tick. codes ", " ++ decimal tick) (take l.tick-index l.ticks)
