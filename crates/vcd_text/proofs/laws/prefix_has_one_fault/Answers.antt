use Rattle.vcd_text.specs.Words.{complete_words}
use Rattle.vcd_text.proofs.shared.ResultIsUnique.{one_fault}
use Rattle.vcd_text.proofs.laws.prefix_has_one_fault.Goals as goal

pub returns : goal.returns
returns c limits prefix = one_fault limits (complete_words prefix)
