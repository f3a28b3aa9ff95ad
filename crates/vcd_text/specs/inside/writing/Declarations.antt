-- The text of a capture in parts: the declarations, the values at tick 0, and the rest.
use Rattle.std.specs.Prelude.{ℕ, List, [], ◌++◌, map, codes}
use Rattle.std.specs.List.{flat_map}
use Rattle.vcd_core.specs.declared.capture.Header.{Header}
use Rattle.vcd_core.specs.Contents.{Contents}
use Rattle.vcd_text.specs.Items.{Item, entry}
use Rattle.vcd_text.specs.Text.{item_line, signal_items, timescale_items}

-- the header entries
abbrev pub header_items : List Header → List Item
header_items header = map (λ h. entry h.kind h.words) header

-- header, timescale and declarations, up to the line that ends them
abbrev pub declarations_text : Contents → List ℕ
declarations_text c =
    flat_map item_line (header_items c.header) ++ flat_map item_line (timescale_items c.timescale)
    ++ flat_map item_line (signal_items [] 0 c.signals) ++ codes "$enddefinitions $end\n"
