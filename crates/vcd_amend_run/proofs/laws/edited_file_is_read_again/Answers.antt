use Rattle.vcd_amend_run.proofs.laws.EditedFiles.{accepted_file_has_pieces, edited_text_is_meant}
use Rattle.vcd_amend_run.proofs.laws.EditedFiles.{marked_text_is_meant}
use Rattle.vcd_amend_run.proofs.laws.edited_file_is_read_again.Goals as goal

pub returns-clause-pieces : goal.returns-clause-pieces
returns-clause-pieces c = accepted_file_has_pieces

pub returns-clause-text : goal.returns-clause-text
returns-clause-text c = edited_text_is_meant

pub returns-clause-marked : goal.returns-clause-marked
returns-clause-marked c = marked_text_is_meant
