use Rattle.vcd_amend.proofs.retimed.OtherTicks.{pieces_are_retimed}
use Rattle.vcd_amend.proofs.retimed.Pieces.{retimed_is_meant, retimed_text_is_meant}
use Rattle.vcd_amend.proofs.retimed.Ticks.{cuts_leave_ticks}
use Rattle.vcd_amend.proofs.laws.retimed_file_is_meant.Goals as goal

pub returns-clause-pieces : goal.returns-clause-pieces
returns-clause-pieces c = retimed_is_meant

pub returns-clause-ticks : goal.returns-clause-ticks
returns-clause-ticks c = cuts_leave_ticks

pub returns-clause-bytes : goal.returns-clause-bytes
returns-clause-bytes c = retimed_text_is_meant

pub returns-clause-retimed : goal.returns-clause-retimed
returns-clause-retimed c = pieces_are_retimed
