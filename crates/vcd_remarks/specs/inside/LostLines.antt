-- Where a line is lost, edge by edge.
use Rattle.std.specs.Prelude.{ℕ, ◌&&◌, Bool, not, Option}
use Rattle.vcd_core.specs.declared.bit.Bit.{Bit}
use Rattle.vcd_core.specs.declared.bit_edges.BitEdge.{BitEdge}
use Rattle.vcd_decode.specs.inside.PartialWord.{line_bit}
use Rattle.vcd_decode.specs.inside.SpiSetup.{is_present_and}
use Rattle.vcd_remarks.specs.LostLines.{is_lost}
use Rattle.vcd_remarks.specs.declared.lost_lines.Pull.{Pull}

-- whether a bit that is present is lost, and was not just before
abbrev pub become_lost : Pull → (before at : Option Bit) → Bool
become_lost pull before at =
    is_present_and (λ b. not (is_lost pull b)) before && is_present_and (is_lost pull) at

-- whether the line at a place is lost from an edge on
abbrev pub loses_line_at : Pull → (line : ℕ) → BitEdge → Bool
loses_line_at pull line e = become_lost pull (line_bit e.before line) (line_bit e.at line)
