-- There are as many as before.
use Rattle.std.proofs.Common.{◌≡◌, length}
use Rattle.vcd_text.proofs.writing.transitions.read_ticks.Given as goal

abbrev pub invariant-loop-k : goal.invariant-loop-k
invariant-loop-k l = length l.start_cursors ≡ length l.initial.start_cursors
