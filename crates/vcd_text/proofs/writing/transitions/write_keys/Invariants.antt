-- The transitions of the keys passed are written; the last tick stays.
use Rattle.std.proofs.Common.{◌≡◌, length, drop, map}
use Rattle.std.specs.List.{flat_map}
use Rattle.vcd_core.specs.CaptureContents.{signal_contents}
use Rattle.vcd_text.specs.Text.{item_line}
use Rattle.vcd_text.specs.inside.writing.Transitions.{last_tick, transition_items}
use Rattle.vcd_text.specs.inside.writing.Window.{transitions_of}
use Rattle.vcd_text.proofs.shared.EmittedParts.{WritesPrefix}
use Rattle.vcd_text.proofs.writing.transitions.write_keys.Given as goal

abbrev pub invariant-loop-k : goal.invariant-loop-k
invariant-loop-k g l =
    record {
      text : WritesPrefix g.W.Sink l.initial.output l.output
          (flat_map item_line (transition_items (map signal_contents l.signals) l.last
          (transitions_of l.window.from (drop l.k l.window.keys.now))))
          (flat_map item_line (transition_items (map signal_contents l.signals) l.initial.last
          (transitions_of l.window.from l.window.keys.now)));
      last : last_tick l.last (transitions_of l.window.from (drop l.k l.window.keys.now))
          ≡ last_tick l.initial.last (transitions_of l.window.from l.window.keys.now);
      start_cursors : length l.start_cursors ≡ length l.initial.start_cursors;
    }
