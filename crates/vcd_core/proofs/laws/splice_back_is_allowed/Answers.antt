use Rattle.std.proofs.Common.{subst, sym}
use Rattle.vcd_core.specs.Wave.{IsWave}
use Rattle.vcd_core.proofs.shared.Splices.{spliced_back, back_within, back_fits}
use Rattle.vcd_core.proofs.laws.splice_back_is_allowed.Goals as goal

pub returns : goal.returns
returns c = λ width changes piece from to by back ordered within wave small fit opposite. (
  back_within changes piece from to by back ordered within,
  back_fits changes piece from to by back ordered within small fit opposite,
  subst (IsWave width) (sym (spliced_back changes piece from to by back ordered within fit opposite)) wave,
)
