use Rattle.vcd_compare.proofs.shared.Windows.{compared_alike}
use Rattle.vcd_compare.proofs.laws.only_the_window_counts.Goals as goal

pub returns : goal.returns
returns g c tolerance a b e d window = compared_alike g.V.PartialEq.eq tolerance window a b e d
