-- Each turn writes one variable.
use Rattle.std.proofs.Common.{List, map, drop, ◌+◌}
use Rattle.std.specs.List.{flat_map}
use Rattle.std.proofs.lemmas.Grind.{flat_map-append}
use Rattle.vcd_text.specs.Text.{item_line}
use Rattle.vcd_text.proofs.shared.EmittedParts.{prefix_item}
use Rattle.vcd_amend.specs.AmendedItems.{added_items}
use Rattle.vcd_amend.specs.AmendmentContents.{added_contents}
use Rattle.vcd_amend.specs.declared.amendment.AddedVariable.{AddedVariable}
use Rattle.vcd_amend.proofs.amending.variable_writing.write_added.Goals as goal

pub loop-variable-preserved : goal.loop-variable-preserved
loop-variable-preserved g c = prefix_item
    (λ (vs : List AddedVariable). flat_map item_line (flat_map added_items (map added_contents vs))) c.args.added.now
    c.loop-variable.variable-index c.variable-item.result c.loop-variable.invariant c.write_added_variable.ensures
    c.loop-variable-test.true c.variable-item.is
    (flat_map-append item_line (added_items (added_contents c.variable-item.result))
    (flat_map added_items (map added_contents (drop (c.loop-variable.variable-index + 1) c.args.added.now))))
