-- The parts in a row are the declarations.
use Rattle.std.proofs.Common.{[], List, map, ap}
use Rattle.std.specs.List.{flat_map}
use Rattle.vcd_core.specs.declared.capture.Header.{Header}
use Rattle.vcd_core.specs.declared.capture.Signal.{Signal}
use Rattle.vcd_core.specs.CaptureContents.{signal_contents}
use Rattle.vcd_text.specs.Text.{item_line, signal_items, timescale_items}
use Rattle.vcd_text.specs.inside.writing.Declarations.{header_items}
use Rattle.vcd_text.proofs.shared.EmittedParts.{writes_as, writes_both}
use Rattle.vcd_text.proofs.writing.declarations.write_declarations.Goals as goal

pub returns : goal.returns
returns g c =
    let header = writes_as (ap (λ (l : List Header). flat_map item_line (header_items l)) c.header.ensures)
    c.write_header.ensures in
    let timescale = writes_as (ap (λ o. flat_map item_line (timescale_items o)) c.timescale.ensures)
    c.write_timescale.ensures in
    let signals = writes_as (ap (λ (l : List Signal). flat_map item_line
    (signal_items [] 0 (map signal_contents l))) c.signals.ensures) c.write_signals.ensures in
    writes_both (writes_both (writes_both header timescale) signals) c.write_bytes.ensures.written
