-- The values of the signals passed are written.
use Rattle.std.proofs.Common.{drop, map}
use Rattle.std.specs.List.{enumerate_from, flat_map}
use Rattle.vcd_core.specs.CaptureContents.{signal_contents}
use Rattle.vcd_text.specs.Text.{item_line, value_items}
use Rattle.vcd_text.proofs.shared.EmittedParts.{WritesPrefix}
use Rattle.vcd_text.proofs.writing.first_values.write_all_values.Given as goal

abbrev pub invariant-loop-position : goal.invariant-loop-position
invariant-loop-position g l =
    WritesPrefix g.W.Sink l.initial.output l.output
    (flat_map item_line (value_items 0 (enumerate_from l.position (map signal_contents (drop l.position l.signals)))))
    (flat_map item_line (value_items 0 (enumerate_from 0 (map signal_contents l.signals))))
