-- The cuts passed are made.
use Rattle.std.proofs.Common.{◌≡◌, drop}
use Rattle.vcd_amend_run.specs.inside.FileLines.{tick_moved_by_cuts}
use Rattle.vcd_amend_run.proofs.line_pass.file_lines.tick_moved_by_cuts.Given as goal

abbrev pub invariant-loop-cut : goal.invariant-loop-cut
invariant-loop-cut l = tick_moved_by_cuts (drop l.cut-index l.cuts) l.moved ≡ tick_moved_by_cuts l.cuts l.tick
