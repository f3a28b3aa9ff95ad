-- Each key has the position of a signal.
use Rattle.std.proofs.Common.{arith}
use Rattle.vcd_text.proofs.writing.transitions.read_ticks.Goals as goal

pub bounds-signals-position : goal.bounds-signals-position
bounds-signals-position c = omega (arith, c.requires.keys c.loop-k.k 0 (omega arith))
