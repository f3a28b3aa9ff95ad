-- The walk over changes of lines, for edges: the edges of an edge maker in a state.
use Rattle.std.specs.Prelude.{◌==◌, nat_lt, Bool, if◌then◌else◌, Option, Some, None}
use Rattle.std.specs.Prelude.{List, [], ◌∷◌, ◌++◌, map}
use Rattle.std.specs.List.{enumerate_from}
use Rattle.std.specs.Option.{option_map, option_to_list}
use Rattle.vcd_core.specs.declared.bit.Bit.{Bit}
use Rattle.vcd_core.specs.declared.bit.Bit.TheVariants.{X}
use Rattle.vcd_core.specs.declared.bit_edges.BitEdge.{BitEdge}
use Rattle.vcd_decode.specs.declared.edge_maker.LineChange.{LineChange}
use Rattle.vcd_decode.specs.declared.edge_maker.EdgeMaker.{EdgeMaker}

-- the letters of lines before their first change
abbrev pub first_letters : List Bool → List (Option Bit)
first_letters = map (λ is_present. if is_present then Some X else None)

-- the letters of lines after a change
abbrev pub letters_after : List (Option Bit) → LineChange → List (Option Bit)
letters_after letters c =
    map (λ p. if c.line == p.0 then option_map (λ b. c.letter) p.1 else p.1)
    (enumerate_from 0 letters)

-- the edge of the tick of a maker
abbrev pub edge_of_maker : EdgeMaker → BitEdge
edge_of_maker m = record { tick = m.tick; before = m.before; at = m.at }

-- the maker at the tick of a change, before it
abbrev pub maker_at : EdgeMaker → LineChange → EdgeMaker
maker_at m c =
    if nat_lt m.tick c.tick then record { before = m.at; at = m.at; tick = c.tick } else m

-- the maker after a change
abbrev pub maker_after : EdgeMaker → LineChange → EdgeMaker
maker_after m c = record (maker_at m c) { at = letters_after m.at c }

-- the edge that a change completes
abbrev pub edge_completed : EdgeMaker → LineChange → Option BitEdge
edge_completed m c = if nat_lt m.tick c.tick then Some (edge_of_maker m) else None

-- the edges that a maker has left to give for the changes to come
unfoldable pub edges_left : EdgeMaker → List LineChange → List BitEdge
edges_left m [] = edge_of_maker m ∷ []
edges_left m (c ∷ cs) = option_to_list (edge_completed m c) ++ edges_left (maker_after m c) cs
