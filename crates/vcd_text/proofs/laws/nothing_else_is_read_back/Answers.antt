use Rattle.vcd_text.specs.Text.{text}
use Rattle.vcd_text.proofs.shared.ResultIsUnique.{one_meaning}
use Rattle.vcd_text.proofs.shared.FoundFault.{meaning-no_fault}
use Rattle.vcd_core.specs.declared.capture.TheConstants.{SIGNAL_LIMIT}
use Rattle.vcd_text.proofs.read_back.WholeText.{read_back}
use Rattle.vcd_text.proofs.laws.nothing_else_is_read_back.Goals as goal

pub returns-clause-same_capture : goal.returns-clause-same_capture
returns-clause-same_capture g c d n sound means = one_meaning SIGNAL_LIMIT (text c) d c n 0 means (read_back c sound)

pub returns-clause-no_fault : goal.returns-clause-no_fault
returns-clause-no_fault g c line fault sound has = meaning-no_fault SIGNAL_LIMIT (text c) c 0 line fault
    (read_back c sound) has
