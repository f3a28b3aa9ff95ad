use Rattle.std.proofs.Common.{◌≡◌, ◌++◌, map}
use Rattle.vcd_core.specs.CaptureContents.{signal_contents}
use Rattle.vcd_amend_run.specs.inside.HeardNames.{hears, hollow_by}
use Rattle.vcd_amend_run.proofs.hollow_reading.hollow_signals.Given as goal

abbrev pub invariant-loop-signal : goal.invariant-loop-signal
invariant-loop-signal l =
    map (hollow_by (hears l.names)) (map signal_contents l.fn.signals.items)
    ≡ map signal_contents l.hollow.items
    ++ map (hollow_by (hears l.names)) (map signal_contents l.signal-iterator.rest.items)
