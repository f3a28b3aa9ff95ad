-- The bits of the line at a place of an edge.
use Rattle.std.specs.Prelude.{ℕ}
use Rattle.vcd_core.specs.declared.bit_edges.BitEdge.{BitEdge}
use Rattle.vcd_decode.specs.inside.PartialWord.{line_bit}
use Rattle.vcd_remarks.specs.declared.line_bits.LineBits.{LineBits}

abbrev pub line_bits : (line : ℕ) → BitEdge → LineBits
line_bits line e = record { before = line_bit e.before line; at = line_bit e.at line }
