-- The ticks of the items of a file. The project's own.
use Rattle.std.specs.Prelude.{ℕ}
use Rattle.vcd_core.specs.Decimal.{number_of}
use Rattle.vcd_text.specs.Items.{Item, stamp}

-- the tick after an item
abbrev pub tick_after_item : ℕ → Item → ℕ
tick_after_item now (stamp digits) = number_of digits
tick_after_item now item = now
