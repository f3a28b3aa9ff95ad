use Rattle.std.proofs.Common.{◌≡◌, ◌++◌, map}
use Rattle.vcd_core.specs.CaptureContents.{signal_contents}
use Rattle.vcd_core.specs.Outline.{without_changes}
use Rattle.vcd_amend_run.proofs.hollow_reading.declared_signals.Given as goal

abbrev pub invariant-loop-signal : goal.invariant-loop-signal
invariant-loop-signal l =
    map without_changes (map signal_contents l.fn.signals.items)
    ≡ map signal_contents l.declared.items
    ++ map without_changes (map signal_contents l.signal-iterator.rest.items)
