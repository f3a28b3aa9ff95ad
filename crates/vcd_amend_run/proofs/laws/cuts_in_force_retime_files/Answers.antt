use Rattle.vcd_amend_run.proofs.laws.EditedFiles.{cuts_in_force_leave_ticks, retimed_is_replay, no_cut_leaves_pieces}
use Rattle.vcd_amend_run.proofs.laws.cuts_in_force_retime_files.Goals as goal

pub returns-clause-ticks : goal.returns-clause-ticks
returns-clause-ticks c = cuts_in_force_leave_ticks

pub returns-clause-capture : goal.returns-clause-capture
returns-clause-capture c = retimed_is_replay

pub returns-clause-no_cut : goal.returns-clause-no_cut
returns-clause-no_cut c = no_cut_leaves_pieces
