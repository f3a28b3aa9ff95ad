use Rattle.vcd_decode.proofs.laws.StraightEdges.{frames_begin, same_clocks, same_buses}
use Rattle.vcd_decode.proofs.laws.unclear_edges_count_for_nothing.Goals as goal

pub returns-clause-frames : goal.returns-clause-frames
returns-clause-frames c = frames_begin

pub returns-clause-clocks : goal.returns-clause-clocks
returns-clause-clocks c = same_clocks

pub returns-clause-buses : goal.returns-clause-buses
returns-clause-buses c = same_buses
