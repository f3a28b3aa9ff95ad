use Rattle.vcd_hollow.proofs.shared.Hollow.{replay_on_hollow, silent_are_cut_alone, hollow_is_sound}
use Rattle.vcd_hollow.proofs.laws.replays_on_hollow_captures.Goals as goal

pub returns-clause-replay : goal.returns-clause-replay
returns-clause-replay c = replay_on_hollow

pub returns-clause-whole : goal.returns-clause-whole
returns-clause-whole c = silent_are_cut_alone

pub returns-clause-sound : goal.returns-clause-sound
returns-clause-sound c = hollow_is_sound
