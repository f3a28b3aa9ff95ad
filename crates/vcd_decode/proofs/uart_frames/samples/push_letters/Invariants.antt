-- With the bits to come the letters become all that are sampled.
use Rattle.std.proofs.Common.{◌≡◌, ◌-◌, length}
use Rattle.vcd_decode.specs.Uart.{last_bit}
use Rattle.vcd_decode.specs.inside.UartFrames.{more_letters, letters_through}
use Rattle.vcd_decode.proofs.uart_frames.samples.push_letters.Given as goal

abbrev pub invariant-loop-bit : goal.invariant-loop-bit
invariant-loop-bit l = (length l.letters.items ≡ l.bit)
    × (more_letters l.setup l.letter l.start l.through (last_bit l.setup - l.bit) l.letters.items
    ≡ letters_through l.setup l.letter l.start l.through l.fn.letters.items)
