use Rattle.vcd_core.proofs.shared.Splices.{spliced_back, piece_of-spliced}
use Rattle.vcd_core.proofs.laws.splice_and_back.Goals as goal

pub returns : goal.returns
returns c = λ changes piece from to by back ordered within fit opposite. (
  spliced_back changes piece from to by back ordered within fit opposite,
  piece_of-spliced changes piece from to by back ordered within,
)
