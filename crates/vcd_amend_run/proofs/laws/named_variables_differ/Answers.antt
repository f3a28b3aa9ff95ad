use Rattle.vcd_amend_run.proofs.laws.NamedVariables as law
use Rattle.vcd_amend_run.proofs.laws.named_variables_differ.Goals as goal

pub returns : goal.returns
returns c = law.named_variables_differ
