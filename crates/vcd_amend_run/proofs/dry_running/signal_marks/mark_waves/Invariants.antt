use Rattle.std.proofs.Common.{◌≡◌, drop}
use Rattle.std.specs.List.{filter_map}
use Rattle.vcd_hollow.specs.HollowRun.{origins_at}
use Rattle.vcd_amend_run.specs.inside.dry_running.LinePlan.{marked}
use Rattle.vcd_amend_run.proofs.dry_running.signal_marks.mark_waves.Given as goal

abbrev pub invariant-loop-wave : goal.invariant-loop-wave
invariant-loop-wave l =
    marked l.marks (origins_at l.origins (filter_map (λ wave. wave) (drop l.wave-index l.wave-items)))
    ≡ marked l.fn.marks (origins_at l.origins (filter_map (λ wave. wave) l.wave-items))
