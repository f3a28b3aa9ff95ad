use Rattle.vcd_hollow.proofs.shared.HollowPart.{hollow_is_part}
use Rattle.vcd_hollow.proofs.laws.hollow_captures_are_parts.Goals as goal

pub returns : goal.returns
returns c = hollow_is_part
