-- The keys of the signals passed are listed.
use Rattle.std.proofs.Common.{◌≡◌, ◌<◌, ◌≤◌, ◌++◌, ℕ, length, drop, map, get_or, All, vec_capacity}
use Rattle.vcd_core.specs.declared.capture.Signal.{Signal}
use Rattle.vcd_core.specs.CaptureContents.{signal_contents}
use Rattle.vcd_text.specs.declared.writing.cursors.Cursor.{Cursor}
use Rattle.vcd_text.specs.inside.writing.Cursors.{IsNext}
use Rattle.vcd_text.specs.inside.writing.Transitions.{unsorted_window}
use Rattle.vcd_text.specs.inside.writing.Window.{IsKey, transitions_of}
use Rattle.vcd_text.proofs.writing.window.list_window.Given as goal

abbrev pub invariant-loop-position : goal.invariant-loop-position
invariant-loop-position l =
    record {
      all : transitions_of l.ticks.start l.keys.items
          ++ unsorted_window l.ticks.start l.ticks.end l.position (map signal_contents (drop l.position l.signals))
          ≡ unsorted_window l.ticks.start l.ticks.end 0 (map signal_contents l.signals);
      keys : All (IsKey l.ticks.start (length l.signals)) l.keys.items;
      next_count : length l.cursors ≡ length l.signals;
      passed : (k : ℕ) (s : Signal) (n : Cursor) → k < l.position
          → IsNext l.ticks.end l.ticks.end (get_or l.signals k s).wave.changes (get_or l.cursors k n);
      room : vec_capacity l.fn.keys ≤ vec_capacity l.keys;
    }
