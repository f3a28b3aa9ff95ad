-- The cuts passed are made.
use Rattle.std.proofs.Common.{◌≡◌, drop}
use Rattle.vcd_core.specs.CaptureContents.{contents}
use Rattle.vcd_core.specs.Sound.{IsSound}
use Rattle.vcd_amend_run.specs.inside.CaptureAfterCuts.{capture_after_cuts}
use Rattle.vcd_amend_run.proofs.after_cuts.after_cuts.Given as goal

abbrev pub invariant-loop-cut : goal.invariant-loop-cut
invariant-loop-cut l = record {
  made : capture_after_cuts (contents l.after) (drop l.cut-index l.cuts)
      ≡ capture_after_cuts (contents l.fn.capture) l.cuts;
  sound : IsSound (contents l.after);
}
