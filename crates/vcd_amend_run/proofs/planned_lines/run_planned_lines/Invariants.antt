-- The lines so far: what is left of the plan, the replies and the remarks.
use Rattle.std.proofs.Common.{◌≡◌, ◌+◌, ◌≤◌, false, length}
use Rattle.vcd_script.specs.Script.{script_lines}
use Rattle.vcd_amend_run.proofs.planned_lines.LinesAfter.{AreLeftAfter}
use Rattle.vcd_amend_run.proofs.planned_lines.PlannedRun.{KeepsMachines, KeepsReplies, KeepsRemarks}
use Rattle.vcd_amend_run.proofs.planned_lines.run_planned_lines.Given as goal

abbrev pub invariant-loop-text : goal.invariant-loop-text
invariant-loop-text g l = record {
  left : AreLeftAfter (script_lines l.input.script.now) l.number (script_lines l.rest);
  machines : KeepsMachines l.input.skipped (script_lines l.input.script.now) l.input.streamed.now l.fn.session l.number
      (script_lines l.rest) l.streamed l.session;
  replied : KeepsReplies (g.O.Reopen.whole l.fn.again) l.input.skipped (script_lines l.input.script.now)
      l.input.streamed.now l.fn.session l.number l.refused l.written (g.P.Sink.taken l.fn.replies)
      (g.P.Sink.taken l.replies);
  remarked : KeepsRemarks (g.O.Reopen.whole l.fn.again) l.input.skipped (script_lines l.input.script.now)
      l.input.streamed.now l.fn.session l.number l.has_ended (g.Q.Sink.taken l.fn.remarks)
      (g.Q.Sink.taken l.remarks);
  ready : g.P.Sink.has_failed l.replies ≡ false;
  again_ready : g.O.Reopen.has_failed l.again ≡ false;
  whole : g.O.Reopen.whole l.again ≡ g.O.Reopen.whole l.fn.again;
  number : l.number + length l.rest ≤ length l.input.script.now;
  refused : l.refused ≤ l.number;
}

abbrev pub decreases-loop-text : goal.decreases-loop-text
decreases-loop-text g l = length l.rest
