use Rattle.vcd_amend.proofs.amended.Whole.{amended_is_meant}
use Rattle.vcd_amend.proofs.amended.WholeText.{amended_text_is_meant}
use Rattle.vcd_amend.proofs.laws.amended_file_is_read_again.Goals as goal

pub returns-clause-items : goal.returns-clause-items
returns-clause-items c = amended_is_meant

pub returns-clause-text : goal.returns-clause-text
returns-clause-text c = amended_text_is_meant
