-- Each turn writes one byte.
use Rattle.std.proofs.Common.{◌+◌, drop, arith}
use Rattle.std.specs.List.{flat_map}
use Rattle.std.proofs.lemmas.List.{drop_more}
use Rattle.vcd_copy.specs.MarkText.{escaped_byte}
use Rattle.vcd_text.proofs.shared.EmittedParts.{prefix_grows}
use Rattle.vcd_copy.proofs.marking.write_escaped.Goals as goal

pub loop-byte-preserved : goal.loop-byte-preserved
loop-byte-preserved g c =
    prefix_grows (flat_map escaped_byte (drop (c.loop-byte.byte-index + 1) c.args.bytes.now))
    c.loop-byte.invariant c.write_escaped_byte.ensures (grind (arith, drop_more))
