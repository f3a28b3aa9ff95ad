-- The lists of changes of waves.
use Rattle.std.specs.Prelude.{ℕ, List, max, vec_capacity}
use Rattle.std.specs.Option.{option_map_or}
use Rattle.vcd_core.specs.declared.wave.Change.{Change}
use Rattle.vcd_core.specs.declared.wave.list.WaveList.{WaveList}

-- the changes: those of the shared list, or else of the wave's own
abbrev pub changes_of_list : WaveList → List Change
changes_of_list l = option_map_or (λ list. list.value.items) l.shared l.own.items

-- the greater of the capacities of the wave's own list and of a shared one
abbrev pub greatest_capacity : WaveList → ℕ
greatest_capacity l =
    max (vec_capacity l.own) (option_map_or (λ list. vec_capacity list.value) l.shared 0)
