use Rattle.std.proofs.Common.{◌≡◌, ◌+◌, ◌*◌, ◌^◌, ◌≤◌, false, length}
use Rattle.vcd_script.specs.Script.{script_lines}
use Rattle.vcd_script.proofs.shared.LinesLeft.{RepliesSoFar}
use Rattle.vcd_script.proofs.running.run_lines.run_lines.Given as goal

abbrev pub invariant-loop-line : goal.invariant-loop-line
invariant-loop-line g l = record {
  replied : RepliesSoFar l.skipped (script_lines l.script) l.fn.session l.number
      (script_lines l.rest) l.session l.refused l.written (g.P.Sink.taken l.fn.replies) (g.P.Sink.taken l.replies);
  ready : g.P.Sink.has_failed l.replies ≡ false;
  number : l.number + length l.rest ≤ length l.script;
  refused : l.refused ≤ l.number;
  written : l.written ≤ l.number * 2 ^ 64;
}

abbrev pub decreases-loop-line : goal.decreases-loop-line
decreases-loop-line g l = length l.rest
