use Rattle.vcd_amend_run.proofs.dry_running.EditLines.{lines_ask_for_edits}
use Rattle.vcd_amend_run.proofs.laws.lines_in_force_ask_for_edits.Goals as goal

pub returns : goal.returns
returns c = lines_ask_for_edits
