use Rattle.std.proofs.Common.{◌≡◌, Option, Some, List, [], ◌∷◌, ◌++◌, OnOk, ap, sym, subst, ◌∙◌, arith}
use Rattle.std.specs.Option.{option_copied, option_map}
use Rattle.vcd_core.specs.BitEdges.{bit_edges_of}
use Rattle.vcd_core.specs.CaptureContents.{contents}
use Rattle.vcd_core.specs.Contents.{signal_at}
use Rattle.vcd_core.specs.WaveView.{WaveView}
use Rattle.vcd_decode.specs.LineEdges.{AreEdgesOf}
use Rattle.vcd_decode.proofs.shared.EdgeTicks.{bit_edges_are}
use Rattle.vcd_remarks.specs.DecoderFindings.{told}
use Rattle.vcd_remarks.specs.Remarks.{remarks_text}
use Rattle.vcd_remarks.specs.inside.SpiFinder.{spi_findings_left}
use Rattle.vcd_remarks.proofs.remarks.FindingsOfSignals.{chip_line, line_sound, lines_sound, same_presence}
use Rattle.vcd_remarks.proofs.remarks.spi.append_spi_remarks.Goals as goal

pub returns : goal.returns
returns c =
    let here = contents c.args.capture.now in
    let bus = c.args.bus.now in
    let clk = c.scalar_wave-clk in
    let mosi = c.wave_or_absent-mosi in
    let miso = c.wave_or_absent-miso in
    let cs = c.wave_or_absent-cs in
    let at = option_map (signal_at here) in
    let waves : List (Option WaveView) = Some clk.result.now ∷ option_copied mosi.result
    ∷ option_copied miso.result ∷ option_copied cs.result ∷ [] in
    let edges = c.new-edges.ensures.edges here.end
    (clk.ensures.within, (mosi.ensures.within, (miso.ensures.within, (cs.ensures.within, tt)))) in
    let out = mosi.ensures.letters ∙ chip_line (signal_at here) bus.mosi in
    let back = miso.ensures.letters ∙ chip_line (signal_at here) bus.miso in
    let chip = cs.ensures.letters ∙ chip_line (signal_at here) bus.cs in
    subst (λ found. OnOk c.append_found.result (c.append_found.new.remarks.items ≡ c.args.text.now.items
    ++ remarks_text c.args.number (told found)))
    (ap (spi_findings_left c.new.result) edges
    ∙ c.new.ensures (signal_at here bus.clk) (at bus.mosi) (at bus.miso) (at bus.cs) here.end
    (bit_edges_of waves here.end)
    (same_presence (signal_at here) bus.mosi ∙ sym (ap (λ lines. lines.mosi) c.present_lines.ensures))
    (same_presence (signal_at here) bus.miso ∙ sym (ap (λ lines. lines.miso) c.present_lines.ensures))
    (same_presence (signal_at here) bus.cs ∙ sym (ap (λ lines. lines.cs) c.present_lines.ensures))
    (omega arith)
    (line_sound here c.requires.sound bus.clk c.requires.clk)
    (lines_sound here c.requires.sound bus.mosi c.requires.mosi)
    (lines_sound here c.requires.sound bus.miso c.requires.miso)
    (subst (λ lines. AreEdgesOf lines here.end (bit_edges_of waves here.end))
    (λ i. Some (clk.ensures.letters i) ∷ out i ∷ back i ∷ chip i ∷ []) (bit_edges_are waves here.end)))
    c.append_found.ensures
