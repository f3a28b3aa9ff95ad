-- The ticks that are left leave the same.
use Rattle.std.proofs.Common.{◌≡◌, length}
use Rattle.vcd_remarks.specs.inside.UartFinder.{ticks_after}
use Rattle.vcd_remarks.proofs.uart_finder.amid_bits.drop_through.Given as goal

abbrev pub invariant-loop-held : goal.invariant-loop-held
invariant-loop-held l = ticks_after l.from l.held.items ≡ ticks_after l.from l.fn.held.items

abbrev pub decreases-loop-held : goal.decreases-loop-held
decreases-loop-held l = length l.held.items
