-- Each turn writes one entry.
use Rattle.std.proofs.Common.{List, refl}
use Rattle.std.specs.List.{flat_map}
use Rattle.vcd_core.specs.declared.capture.Header.{Header}
use Rattle.vcd_text.specs.Text.{item_line}
use Rattle.vcd_text.specs.inside.writing.Declarations.{header_items}
use Rattle.vcd_text.proofs.shared.EmittedParts.{prefix_item}
use Rattle.vcd_text.proofs.writing.declarations.write_header.Goals as goal

pub loop-one-preserved : goal.loop-one-preserved
loop-one-preserved g c = prefix_item (λ (hs : List Header). flat_map item_line (header_items hs)) c.args.header.now
    c.loop-one.one-index c.one-item.result c.loop-one.invariant c.write_entry.ensures c.loop-one-test.true c.one-item.is
    refl
