-- Whether the digits so far are 0 or 1.
use Rattle.std.proofs.Common.{◌≡◌, take}
use Rattle.std.specs.List.{list_all}
use Rattle.vcd_text.specs.inside.reading.DigitBlocks.{is_two_state}
use Rattle.vcd_text.proofs.reading.digits.are_two_state.Given as goal

abbrev pub invariant-loop-digit : goal.invariant-loop-digit
invariant-loop-digit g l = record {
  so_far : l.all ≡ list_all is_two_state (take l.digit-index l.digits);
}
