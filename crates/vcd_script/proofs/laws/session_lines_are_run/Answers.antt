-- A machine does in turn what the equations of a run say at once.
use Rattle.std.proofs.Common.{ap, sym}
use Rattle.vcd_script.specs.Run.{RunOutcome}
use Rattle.vcd_script.proofs.shared.LinesAndHistory.{last_capture, outcome_is}
use Rattle.vcd_script.proofs.laws.session_lines_are_run.Goals as goal

pub returns : goal.returns
returns _ c skipped depth lines =
    let whole = sym (outcome_is c skipped depth lines) in (
      ap (λ (o : RunOutcome). o.replies) whole,
      ap (λ (o : RunOutcome). o.refused) whole,
      sym (last_capture c skipped depth lines),
    )
