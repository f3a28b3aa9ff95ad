-- The lines passed do not begin so.
use Rattle.std.proofs.Common.{◌≡◌, ◌≤◌, length}
use Rattle.vcd_amend_program.specs.FoundMarks.{said_after}
use Rattle.vcd_amend_program.proofs.found_mark.line_after.Given as goal

abbrev pub invariant-loop-line : goal.invariant-loop-line
invariant-loop-line l = record {
  left : said_after l.first l.mark ≡ said_after l.first l.rest;
  shorter : length l.rest ≤ length l.mark;
}

abbrev pub decreases-loop-line : goal.decreases-loop-line
decreases-loop-line l = length l.rest
