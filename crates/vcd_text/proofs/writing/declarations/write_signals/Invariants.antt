-- The declarations of the signals passed are written.
use Rattle.std.proofs.Common.{[], drop, map}
use Rattle.std.specs.List.{flat_map}
use Rattle.vcd_core.specs.CaptureContents.{signal_contents}
use Rattle.vcd_text.specs.Text.{item_line, signal_items}
use Rattle.vcd_text.proofs.shared.EmittedParts.{WritesPrefix}
use Rattle.vcd_text.proofs.writing.declarations.write_signals.Given as goal

abbrev pub invariant-loop-position : goal.invariant-loop-position
invariant-loop-position g l =
    WritesPrefix g.W.Sink l.initial.output l.output
    (flat_map item_line (signal_items l.opened l.position (map signal_contents (drop l.position l.signals))))
    (flat_map item_line (signal_items [] 0 (map signal_contents l.signals)))
