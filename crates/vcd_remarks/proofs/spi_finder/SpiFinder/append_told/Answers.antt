use Rattle.std.proofs.Common.{if◌then◌else◌, List, [], ◌++◌, ap, ◌∙◌}
use Rattle.vcd_remarks.specs.declared.findings.finding.Finding.{Finding}
use Rattle.vcd_remarks.specs.declared.spi_line.TheConstants.{MOSI, MISO}
use Rattle.vcd_remarks.specs.DecoderFindings.{told}
use Rattle.vcd_remarks.specs.Remarks.{remarks_text}
use Rattle.vcd_remarks.specs.inside.ClockRuns.{below_left}
use Rattle.vcd_remarks.specs.inside.SpiClock.{clk_left}
use Rattle.vcd_remarks.specs.inside.SpiLine.{data_left}
use Rattle.vcd_remarks.specs.inside.SpiSelection.{cs_left}
use Rattle.vcd_remarks.proofs.spi_finder.FindingsInTurn.{line_in_turn}
use Rattle.vcd_remarks.proofs.spi_finder.SpiFinder.append_told.Goals as goal

pub returns : goal.returns
returns c =
    let f = c.args.self.now in
    let number = c.args.number in
    let start = c.args.remarks.now.items in
    let runs = below_left f.clk.either [] in
    let of_clk : List Finding = clk_left f.clk [] in
    let of_mosi : List Finding = data_left MOSI f.setup 1 runs f.mosi [] in
    let of_miso : List Finding = data_left MISO f.setup 2 runs f.miso [] in
    let with_mosi : List Finding = of_clk ++ (if f.present.mosi then of_mosi else []) in
    let clk = c.in_ok-append_findings.ensures
    ∙ ap (λ fs. start ++ remarks_text number (told fs)) c.findings.ensures in
    let mosi = line_in_turn number of_clk of_mosi _ f.present.mosi start _ _ clk c.in_ok-append_if.ensures
    (c.findings-2.ensures f.setup 1) in
    let miso = line_in_turn number with_mosi of_miso _ f.present.miso start _ _ mosi c.in_ok-append_if-2.ensures
    (c.findings-3.ensures f.setup 2) in
    line_in_turn number (with_mosi ++ (if f.present.miso then of_miso else [])) (cs_left f.setup f.cs []) _ f.present.cs
    start _ _ miso c.in_ok-append_if-3.ensures (c.findings-4.ensures f.setup)
