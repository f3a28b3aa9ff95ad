-- The variables passed are written.
use Rattle.std.proofs.Common.{drop, map}
use Rattle.std.specs.List.{flat_map}
use Rattle.vcd_text.specs.Text.{item_line}
use Rattle.vcd_text.proofs.shared.EmittedParts.{WritesPrefix}
use Rattle.vcd_amend.specs.AmendedItems.{added_items}
use Rattle.vcd_amend.specs.AmendmentContents.{added_contents}
use Rattle.vcd_amend.proofs.amending.variable_writing.write_added.Given as goal

abbrev pub invariant-loop-variable : goal.invariant-loop-variable
invariant-loop-variable g l =
    WritesPrefix g.W.Sink l.initial.output l.output
    (flat_map item_line (flat_map added_items (map added_contents (drop l.variable-index l.added))))
    (flat_map item_line (flat_map added_items (map added_contents l.added)))
