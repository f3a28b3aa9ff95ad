use Rattle.std.proofs.Common.{◌≡◌, ◌++◌, map}
use Rattle.std.specs.Prelude.{option_map}
use Rattle.std.specs.Vec.Iter.{into_iter_items}
use Rattle.vcd_core.specs.CaptureContents.{signal_contents}
use Rattle.vcd_amend_run.specs.inside.HeardNames.{hears}
use Rattle.vcd_amend_run.specs.inside.WithWaves.{with_waves}
use Rattle.vcd_amend_run.proofs.hearing.signals_with_waves.Given as goal

abbrev pub invariant-loop-signal : goal.invariant-loop-signal
invariant-loop-signal l =
    with_waves (hears l.names) (map signal_contents l.fn.signals.items) (map signal_contents l.fn.part.items)
    ≡ option_map (λ rest. map signal_contents l.all.items ++ rest)
    (with_waves (hears l.names) (map signal_contents l.signal-iterator.rest.items)
    (map signal_contents (into_iter_items l.taken)))
