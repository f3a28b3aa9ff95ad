use Rattle.vcd_text.proofs.read_back.WholeText.{read_back}
use Rattle.vcd_text.proofs.laws.text_is_read_back.Goals as goal

pub returns : goal.returns
returns c = read_back
