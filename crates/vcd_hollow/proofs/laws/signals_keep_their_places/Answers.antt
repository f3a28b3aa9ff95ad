use Rattle.vcd_hollow.proofs.shared.Origins.{origins_rise, origin_is_in_list, signals_come_from_origins}
use Rattle.vcd_hollow.proofs.laws.signals_keep_their_places.Goals as goal

pub returns-clause-rise : goal.returns-clause-rise
returns-clause-rise c = origins_rise

pub returns-clause-one : goal.returns-clause-one
returns-clause-one c = origin_is_in_list

pub returns-clause-places : goal.returns-clause-places
returns-clause-places c = signals_come_from_origins
