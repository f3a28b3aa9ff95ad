-- Each signal passed has its first change.
use Rattle.std.proofs.Common.{◌≡◌, ◌<◌, ℕ, length, get_or}
use Rattle.vcd_core.specs.declared.capture.Signal.{Signal}
use Rattle.vcd_text.specs.declared.writing.cursors.Cursor.{Cursor}
use Rattle.vcd_text.specs.inside.writing.Cursors.{IsNext}
use Rattle.vcd_text.proofs.writing.cursors.first_changes.Given as goal

abbrev pub invariant-loop-signal : goal.invariant-loop-signal
invariant-loop-signal l =
    record {
      all : length l.cursors.items ≡ l.signal-index;
      each : (k : ℕ) (s : Signal) (n : Cursor) → k < l.signal-index
          → IsNext 1 1 (get_or l.signals k s).wave.changes (get_or l.cursors.items k n);
    }
