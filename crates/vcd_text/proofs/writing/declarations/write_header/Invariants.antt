-- The entries passed are written.
use Rattle.std.proofs.Common.{drop}
use Rattle.std.specs.List.{flat_map}
use Rattle.vcd_text.specs.Text.{item_line}
use Rattle.vcd_text.specs.inside.writing.Declarations.{header_items}
use Rattle.vcd_text.proofs.shared.EmittedParts.{WritesPrefix}
use Rattle.vcd_text.proofs.writing.declarations.write_header.Given as goal

abbrev pub invariant-loop-one : goal.invariant-loop-one
invariant-loop-one g l =
    WritesPrefix g.W.Sink l.initial.output l.output
    (flat_map item_line (header_items (drop l.one-index l.header))) (flat_map item_line (header_items l.header))
