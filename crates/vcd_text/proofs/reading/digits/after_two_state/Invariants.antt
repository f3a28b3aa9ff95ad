-- The digits so far are 0 or 1, so what is left decides.
use Rattle.std.proofs.Common.{◌≡◌, length}
use Rattle.std.specs.List.{list_all}
use Rattle.vcd_text.specs.Letters.{is_binary_digit}
use Rattle.vcd_text.proofs.reading.digits.after_two_state.Given as goal

abbrev pub invariant-loop-digits : goal.invariant-loop-digits
invariant-loop-digits g l = list_all is_binary_digit l.rest ≡ list_all is_binary_digit l.bytes

abbrev pub decreases-loop-digits : goal.decreases-loop-digits
decreases-loop-digits g l = length l.rest
