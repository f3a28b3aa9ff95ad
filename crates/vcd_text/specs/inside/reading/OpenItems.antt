-- The kind of the open item: whether `$end` closes it, and the line of a fault of its words.
use Rattle.std.specs.Prelude.{ℕ, Bool, true, false}
use Rattle.vcd_text.specs.declared.reading.parser.OpenItem.{OpenItem}
use Rattle.vcd_text.specs.declared.reading.parser.OpenItem.TheVariants as items

-- whether the words of the open item go on up to `$end`
abbrev pub is_inside : OpenItem → Bool
is_inside items.Nothing = false
is_inside items.Vector = false
is_inside items.RealOrString = false
is_inside item = true

-- whether no item is open
abbrev pub is_nothing : OpenItem → Bool
is_nothing items.Nothing = true
is_nothing item = false

-- whether the open item is `$enddefinitions`
abbrev pub is_end_definitions : OpenItem → Bool
is_end_definitions items.EndDefinitions = true
is_end_definitions item = false

-- the line of a fault that a word shows: that of the first word if a change of two words is open,
-- else its own
abbrev pub item_fault_line : OpenItem → (first own : ℕ) → ℕ
item_fault_line items.Vector first own = first
item_fault_line items.RealOrString first own = first
item_fault_line item first own = own
