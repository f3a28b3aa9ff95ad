-- What is found of the lines of `spi` while their edges come one at a time.
use Rattle.std.specs.Prelude.{if◌then◌else◌, List, [], ◌++◌}
use Rattle.vcd_core.specs.declared.bit_edges.BitEdge.{BitEdge}
use Rattle.vcd_decode.specs.SpiSetup.{SpiSetup}
use Rattle.vcd_remarks.specs.declared.findings.finding.Finding.{Finding}
use Rattle.vcd_remarks.specs.declared.spi_finder.SpiFinder.{SpiFinder}
use Rattle.vcd_remarks.specs.declared.spi_finder.PresentLines.{PresentLines}
use Rattle.vcd_remarks.specs.declared.spi_line.TheConstants.{MOSI, MISO}
use Rattle.vcd_remarks.specs.inside.ClockRuns.{changes_of_place, below_left}
use Rattle.vcd_remarks.specs.inside.SpiClock.{no_clock, clk_left}
use Rattle.vcd_remarks.specs.inside.SpiLine.{no_data, data_left}
use Rattle.vcd_remarks.specs.inside.SpiSelection.{no_selection, cs_left}

-- before the first edge
abbrev pub no_edges : SpiSetup → PresentLines → SpiFinder
no_edges u present = record {
  setup = u;
  present = present;
  clk = no_clock;
  mosi = no_data;
  miso = no_data;
  cs = no_selection;
}

-- what will have been found after the edges to come
abbrev pub spi_findings_left : SpiFinder → List BitEdge → List Finding
spi_findings_left f es =
    let clk = below_left f.clk.either (changes_of_place 0 es) in
    clk_left f.clk es
    ++ (if f.present.mosi then data_left MOSI f.setup 1 clk f.mosi es else [])
    ++ (if f.present.miso then data_left MISO f.setup 2 clk f.miso es else [])
    ++ (if f.present.cs then cs_left f.setup f.cs es else [])
