use Rattle.vcd_text.proofs.shared.FoundFault.{an_answer, found_fault}
use Rattle.vcd_text.proofs.laws.has_an_answer.Goals as goal

pub returns-clause-one : goal.returns-clause-one
returns-clause-one c = an_answer

pub returns-clause-found : goal.returns-clause-found
returns-clause-found c = found_fault
