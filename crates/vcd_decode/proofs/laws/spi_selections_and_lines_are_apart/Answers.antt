use Rattle.vcd_decode.proofs.laws.ApartLines.{selections_apart, lines_apart}
use Rattle.vcd_decode.proofs.laws.spi_selections_and_lines_are_apart.Goals as goal

pub returns-clause-selections : goal.returns-clause-selections
returns-clause-selections c = selections_apart

pub returns-clause-lines : goal.returns-clause-lines
returns-clause-lines c = lines_apart
