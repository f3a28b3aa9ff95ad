use Rattle.vcd_text.proofs.shared.ResultIsUnique as one_answer
use Rattle.vcd_text.proofs.shared.FoundFault as file_faults
use Rattle.vcd_text.proofs.laws.has_one_answer.Goals as goal

pub returns-clause-one_meaning : goal.returns-clause-one_meaning
returns-clause-one_meaning c = one_answer.one_meaning

pub returns-clause-one_fault : goal.returns-clause-one_fault
returns-clause-one_fault c = file_faults.one_file_fault

pub returns-clause-never_both : goal.returns-clause-never_both
returns-clause-never_both c = file_faults.meaning-no_fault
