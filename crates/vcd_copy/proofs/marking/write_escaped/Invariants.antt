-- The bytes passed are written.
use Rattle.std.proofs.Common.{drop}
use Rattle.std.specs.List.{flat_map}
use Rattle.vcd_copy.specs.MarkText.{escaped_byte}
use Rattle.vcd_text.proofs.shared.EmittedParts.{WritesPrefix}
use Rattle.vcd_copy.proofs.marking.write_escaped.Given as goal

abbrev pub invariant-loop-byte : goal.invariant-loop-byte
invariant-loop-byte g l =
    WritesPrefix g.W.Sink l.initial.output l.output (flat_map escaped_byte (drop l.byte-index l.bytes))
    (flat_map escaped_byte l.bytes)
