use Rattle.vcd_amend.proofs.retimed.Copies as lemmas
use Rattle.vcd_amend.proofs.laws.retimed_copy_is_copy_of_retimed.Goals as goal

pub returns : goal.returns
returns c = lemmas.retimed_copy_is_copy_of_retimed
