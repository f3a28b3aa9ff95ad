-- The ticks before a window are written; the ticks after it are left.
use Rattle.std.proofs.Common.{◌≤◌, ◌+◌, ◌-◌, map}
use Rattle.std.specs.List.{flat_map}
use Rattle.vcd_core.specs.CaptureContents.{signal_contents}
use Rattle.vcd_text.specs.Text.{item_line}
use Rattle.vcd_text.specs.inside.writing.Transitions.{items_of_ticks, transitions_from}
use Rattle.vcd_text.specs.inside.writing.Window.{IsReady}
use Rattle.vcd_text.proofs.writing.transitions.ItemsOfTicks.{items_left}
use Rattle.vcd_text.proofs.shared.EmittedParts.{WritesPrefix}
use Rattle.vcd_text.proofs.writing.transitions.write_transitions.Given as goal

abbrev pub invariant-loop-from : goal.invariant-loop-from
invariant-loop-from g l =
    record {
      text : WritesPrefix g.W.Sink l.initial.output l.output
          (flat_map item_line (items_left (map signal_contents l.signals) l.end l.last
          (transitions_from 0 (map signal_contents l.signals) l.from (l.end + 1 - l.from))))
          (flat_map item_line (items_of_ticks (map signal_contents l.signals) l.end 1 l.end));
      ready : IsReady l.end l.from l.signals l.window;
      within : l.from ≤ l.end + 1;
      some : 1 ≤ l.most;
    }

abbrev pub decreases-loop-from : goal.decreases-loop-from
decreases-loop-from g l = l.end + 1 - l.from
