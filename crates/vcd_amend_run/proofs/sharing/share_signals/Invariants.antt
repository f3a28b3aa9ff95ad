use Rattle.std.proofs.Common.{◌≡◌, ◌++◌, map}
use Rattle.vcd_core.specs.CaptureContents.{signal_contents}
use Rattle.vcd_amend_run.proofs.sharing.share_signals.Given as goal

abbrev pub invariant-loop-signal : goal.invariant-loop-signal
invariant-loop-signal l =
    (map signal_contents l.fn.signals.items
    ≡ map signal_contents l.first.items ++ map signal_contents l.signal-iterator.rest.items)
    × (map signal_contents l.second.items ≡ map signal_contents l.first.items)
