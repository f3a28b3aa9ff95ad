-- The bits of a number as levels of a line: shared by the senders of each protocol.
use Rattle.std.specs.Prelude.{ℕ, suc, zero, ◌/◌, ◌%◌, ◌==◌, List, [], ◌∷◌, if◌then◌else◌}
use Rattle.vcd_core.specs.declared.bit.Bit.{Bit}
use Rattle.vcd_core.specs.declared.bit.Bit.TheVariants.{Zero, One}

-- the level of an odd number is 1, of an even one 0
abbrev pub level : ℕ → Bit
level n = if n % 2 == 1 then One else Zero

-- the lowest `count` bits of a word, the least significant first
unfoldable pub data_levels : ℕ → ℕ → List Bit
data_levels zero word = []
data_levels (suc count) word = level word ∷ data_levels count (word / 2)
