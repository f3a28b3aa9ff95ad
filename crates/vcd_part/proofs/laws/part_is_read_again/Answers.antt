use Rattle.vcd_part.proofs.laws.PartIsMeant.{part_means_part}
use Rattle.vcd_part.proofs.laws.part_is_read_again.Goals as goal

pub returns : goal.returns
returns c = part_means_part
