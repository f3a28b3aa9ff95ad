-- Some ticks are left, there is as much room as before, and the same changes are tried.
use Rattle.std.proofs.Common.{◌≡◌, ◌≤◌, ◌+◌, length, vec_capacity}
use Rattle.vcd_text.proofs.writing.window.fill_window.Given as goal

abbrev pub invariant-loop-count : goal.invariant-loop-count
invariant-loop-count l =
    record {
      next : length l.window.cursors.items ≡ length l.signals;
      tried : l.window.start_cursors ≡ l.initial.window.start_cursors;
      some : 1 ≤ l.count;
      within : l.from + l.count ≤ l.end + 1;
      room : vec_capacity l.initial.window.keys ≤ vec_capacity l.window.keys;
    }

abbrev pub decreases-loop-count : goal.decreases-loop-count
decreases-loop-count l = l.count
