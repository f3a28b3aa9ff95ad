use Rattle.std.proofs.Common.{length}
use Rattle.vcd_decode.proofs.uart_frames.frame_kinds.+letters_to_number.Given as goal

abbrev pub decreases-letters_to_number : goal.decreases-letters_to_number
decreases-letters_to_number l = length l.letters.now
