-- What is found of a clock, the first line of edges that come one at a time.
use Rattle.std.specs.Prelude.{Some, None, List, [], ◌∷◌}
use Rattle.vcd_core.specs.declared.bit.Bit.TheVariants.{Zero, One}
use Rattle.vcd_core.specs.declared.bit_edges.BitEdge.{BitEdge}
use Rattle.vcd_remarks.specs.declared.findings.finding.Finding.{Finding}
use Rattle.vcd_remarks.specs.declared.findings.finding_kind.FindingKind.TheVariants as kinds
use Rattle.vcd_remarks.specs.declared.lost_lines.Pull.TheVariants.{Floating}
use Rattle.vcd_remarks.specs.declared.spi_clock.ClockFinder.{ClockFinder}
use Rattle.vcd_remarks.specs.FoundTicks.{found_ticks}
use Rattle.vcd_remarks.specs.inside.ClockRuns.{no_runs, changes_of_place, short_left}
use Rattle.vcd_remarks.specs.inside.FoundTicks.{found_left, finding_at}
use Rattle.vcd_remarks.specs.inside.LostLines.{loses_line_at}

-- before the first edge
abbrev pub no_clock : ClockFinder
no_clock = record {
  lost = found_ticks [];
  low = no_runs (Some Zero);
  high = no_runs (Some One);
  either = no_runs None;
}

-- what will have been found after the edges to come
abbrev pub clk_left : ClockFinder → List BitEdge → List Finding
clk_left f es =
    let changes = changes_of_place 0 es in
    finding_at kinds.ClkLost (found_left (loses_line_at Floating 0) f.lost es)
    ∷ finding_at kinds.ClkShortLow (short_left f.low f.low changes changes)
    ∷ finding_at kinds.ClkShortHigh (short_left f.high f.high changes changes) ∷ []
