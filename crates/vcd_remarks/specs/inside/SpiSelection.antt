-- What is found of a chip select, the last line of edges that come one at a time.
use Rattle.std.specs.Prelude.{◌&&◌, ◌||◌, ◌==◌, Bool, not, if◌then◌else◌, List, [], ◌∷◌}
use Rattle.vcd_core.specs.declared.bit_edges.BitEdge.{BitEdge}
use Rattle.vcd_decode.specs.SpiSetup.{SpiSetup}
use Rattle.vcd_decode.specs.inside.PartialWord.{line_bit}
use Rattle.vcd_decode.specs.inside.SpiSetup.{samples_at}
use Rattle.vcd_decode.specs.inside.SpiWords.{selects_chip}
use Rattle.vcd_remarks.specs.declared.findings.finding.Finding.{Finding}
use Rattle.vcd_remarks.specs.declared.findings.finding_kind.FindingKind.TheVariants as kinds
use Rattle.vcd_remarks.specs.declared.findings.found_ticks.FoundTicks.{FoundTicks}
use Rattle.vcd_remarks.specs.declared.lost_lines.Pull.TheVariants.{Floating}
use Rattle.vcd_remarks.specs.declared.spi_selection.SelectionFinder.{SelectionFinder}
use Rattle.vcd_remarks.specs.FoundTicks.{found_ticks}
use Rattle.vcd_remarks.specs.inside.FoundTicks.{with_edge_tick, found_left, finding_at}
use Rattle.vcd_remarks.specs.inside.LostLines.{loses_line_at}

-- ---- the tests of an edge

-- whether the clock has a sampling edge
abbrev pub samples : SpiSetup → BitEdge → Bool
samples u e = samples_at u.mode (line_bit e.before 0) (line_bit e.at 0)

-- whether it has one at which the selection of the chip begins or ends
abbrev pub samples_at_change : SpiSetup → BitEdge → Bool
samples_at_change u e = samples u e
    && ((selects_chip (line_bit e.before 3) && not (selects_chip (line_bit e.at 3)))
    || (not (selects_chip (line_bit e.before 3)) && selects_chip (line_bit e.at 3)))

-- whether it has one while the chip is selected, or is not
abbrev pub samples_inside : SpiSetup → BitEdge → Bool
samples_inside u e = samples u e && selects_chip (line_bit e.at 3)

abbrev pub samples_outside : SpiSetup → BitEdge → Bool
samples_outside u e = samples u e && not (selects_chip (line_bit e.at 3))

-- ---- what is found

-- before the first edge
abbrev pub no_selection : SelectionFinder
no_selection = record {
  lost = found_ticks [];
  at_change = found_ticks [];
  inside = found_ticks [];
  outside = found_ticks [];
}

-- after one more edge
abbrev pub with_edge : SpiSetup → SelectionFinder → BitEdge → SelectionFinder
with_edge u f e = record {
  lost = with_edge_tick (loses_line_at Floating 3) f.lost e;
  at_change = with_edge_tick (samples_at_change u) f.at_change e;
  inside = with_edge_tick (samples_inside u) f.inside e;
  outside = with_edge_tick (samples_outside u) f.outside e;
}

-- ticks that were found, unless any others were
abbrev pub unless_any : (found others : FoundTicks) → FoundTicks
unless_any found others = if others.count == 0 then found else found_ticks []

-- what will have been found after the edges to come
abbrev pub cs_left : SpiSetup → SelectionFinder → List BitEdge → List Finding
cs_left u f es =
    finding_at kinds.CsLost (found_left (loses_line_at Floating 3) f.lost es)
    ∷ finding_at kinds.CsAtEdges (found_left (samples_at_change u) f.at_change es)
    ∷ finding_at kinds.CsUnselected
    (unless_any (found_left (samples_outside u) f.outside es)
    (found_left (samples_inside u) f.inside es)) ∷ []
