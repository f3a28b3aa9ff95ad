-- Edges of several waves of one bit, where an absent wave has no bit: the project's own.
use Rattle.std.specs.Prelude.{ℕ, ◌≡◌, Option, List, [], ◌∷◌, map, IfSome}
use Rattle.std.specs.Option.{option_map}
use Rattle.vcd_core.specs.declared.bit.Bit.{Bit}
use Rattle.vcd_core.specs.declared.edges.Edge.{Edge}
use Rattle.vcd_core.specs.declared.bit_edges.BitEdge.{BitEdge}
use Rattle.vcd_core.specs.Value.{letter_at}
use Rattle.vcd_core.specs.Edges.{edges_of}
use Rattle.vcd_core.specs.WaveView.{WaveView}

-- the bit of a value that may be absent: its least significant letter
abbrev pub lowest_bit : Option (List Bit) → Option Bit
lowest_bit = option_map (λ v. letter_at v 0)

-- an edge with bits in place of values
abbrev pub bit_edge : Edge → BitEdge
bit_edge e = record { tick = e.tick; before = map lowest_bit e.before; at = map lowest_bit e.at }

-- the edges of waves that may be absent, by their bits
abbrev pub bit_edges_of : List (Option WaveView) → ℕ → List BitEdge
bit_edges_of waves end = map bit_edge (edges_of waves end)

-- a wave of one bit, if it is present
abbrev pub IsOneBit : Option WaveView → Type 0
IsOneBit wave = IfSome wave (λ w. w.width ≡ 1)

-- each wave that is present has one bit
abbrev pub EachOneBit : List (Option WaveView) → Type 0
EachOneBit [] = Unit {0}
EachOneBit (wave ∷ waves) = IsOneBit wave × EachOneBit waves
