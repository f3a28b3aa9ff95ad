-- The written letters and those that are left are those of the value.
use Rattle.std.proofs.Common.{◌≤◌, length}
use Rattle.vcd_text.specs.Letters.{printed_letters}
use Rattle.vcd_text.proofs.shared.EmittedParts.{WritesPrefix}
use Rattle.vcd_text.proofs.writing.values.LetterBits.{lowest}
use Rattle.vcd_text.proofs.writing.values.write_lowest.Given as goal

abbrev pub invariant-loop-left : goal.invariant-loop-left
invariant-loop-left g l = record {
  prefix : WritesPrefix g.W.Sink l.initial.output l.output
      (printed_letters (lowest l.left l.value)) (printed_letters (lowest l.count l.value));
  within : l.left ≤ length l.value;
}

abbrev pub decreases-loop-left : goal.decreases-loop-left
decreases-loop-left g l = l.left
