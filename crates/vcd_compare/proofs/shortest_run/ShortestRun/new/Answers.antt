use Rattle.std.proofs.Common.{refl}
use Rattle.vcd_compare.proofs.shared.ShortestRuns.{begin}
use Rattle.vcd_compare.proofs.shortest_run.ShortestRun.new.Goals as goal

pub returns : goal.returns
returns g c wave first value = begin g.V.PartialEq.eq wave first _ value refl refl
