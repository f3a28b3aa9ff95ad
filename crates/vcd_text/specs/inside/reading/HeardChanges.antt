-- The list of heard changes: each has its place in the buffer of their texts.
use Rattle.std.specs.Prelude.{ℕ, ◌-◌, ◌≤◌, List, take, drop}
use Rattle.vcd_text.specs.HeardChanges.{HeardChange}
use Rattle.vcd_text.specs.declared.reading.heard_changes.PlacedChange.{PlacedChange}

-- a change whose text lies at its place
abbrev pub placed_change : (buffer : List ℕ) → PlacedChange → HeardChange
placed_change buffer p =
    record { tick = p.tick; target = p.target; text = take (p.end - p.start) (drop p.start buffer) }

-- the place is within a buffer of this length
abbrev pub IsPlacedWithin : (len : ℕ) → PlacedChange → Type 0
IsPlacedWithin len p = (p.start ≤ p.end) × (p.end ≤ len)
