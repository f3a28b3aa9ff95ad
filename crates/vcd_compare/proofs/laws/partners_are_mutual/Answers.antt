use Rattle.vcd_compare.proofs.pairing.Positions.{both_ways_partner}
use Rattle.vcd_compare.proofs.laws.partners_are_mutual.Goals as goal

pub returns : goal.returns
returns c = both_ways_partner
