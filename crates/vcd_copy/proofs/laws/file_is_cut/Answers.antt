use Rattle.vcd_copy.proofs.pieces.Cuts.{file_is_cut}
use Rattle.vcd_copy.proofs.pieces.OneCut.{cut_is_unique}
use Rattle.vcd_copy.proofs.laws.file_is_cut.Goals as goal

pub returns-clause-cut : goal.returns-clause-cut
returns-clause-cut c = file_is_cut

pub returns-clause-one : goal.returns-clause-one
returns-clause-one c = cut_is_unique
