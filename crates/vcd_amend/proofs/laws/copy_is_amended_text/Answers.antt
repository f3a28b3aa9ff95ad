use Rattle.vcd_amend.proofs.amended.CopiedText as lemmas
use Rattle.vcd_amend.proofs.laws.copy_is_amended_text.Goals as goal

pub returns : goal.returns
returns c = lemmas.copy_is_amended_text
