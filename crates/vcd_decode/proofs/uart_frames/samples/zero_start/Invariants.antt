-- The falls that are left begin the same frame, and leave the same falls.
use Rattle.std.proofs.Common.{◌≡◌, length}
use Rattle.vcd_decode.specs.inside.UartFrames.{zero_start, open_falls}
use Rattle.vcd_decode.proofs.uart_frames.samples.zero_start.Given as goal

abbrev pub invariant-loop-letter : goal.invariant-loop-letter
invariant-loop-letter l =
    (zero_start l.setup l.letter l.through l.falls.items ≡ zero_start l.setup l.letter l.through l.fn.falls.items)
    × (open_falls l.setup l.letter l.through l.falls.items ≡ open_falls l.setup l.letter l.through l.fn.falls.items)

abbrev pub decreases-loop-letter : goal.decreases-loop-letter
decreases-loop-letter l = length l.falls.items
