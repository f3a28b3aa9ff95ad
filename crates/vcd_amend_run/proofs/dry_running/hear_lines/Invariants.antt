use Rattle.std.proofs.Common.{◌+◌, ◌≤◌, length}
use Rattle.vcd_script.specs.Script.{script_lines}
use Rattle.vcd_amend_run.proofs.dry_running.LinesLeft.{AreLeft}
use Rattle.vcd_amend_run.proofs.dry_running.hear_lines.Given as goal

abbrev pub invariant-loop-line : goal.invariant-loop-line
invariant-loop-line l = record {
  left : AreLeft l.skipped (script_lines l.script) l.fn.state l.number (script_lines l.rest) l.state;
  number : l.number + length l.rest ≤ length l.script;
}

abbrev pub decreases-loop-line : goal.decreases-loop-line
decreases-loop-line l = length l.rest
