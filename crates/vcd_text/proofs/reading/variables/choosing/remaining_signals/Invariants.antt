use Rattle.std.proofs.Common.{◌≡◌, ◌++◌, map}
use Rattle.vcd_core.specs.CaptureContents.{signal_contents}
use Rattle.vcd_text.specs.inside.reading.Part.{remaining}
use Rattle.vcd_text.proofs.reading.variables.choosing.remaining_signals.Given as goal

abbrev pub invariant-loop-signal : goal.invariant-loop-signal
invariant-loop-signal l =
    remaining l.fn.left_out (map signal_contents l.fn.signals.items)
    ≡ map signal_contents l.remaining.items
    ++ remaining l.tests (map signal_contents l.signal-iterator.rest.items)
