use Rattle.std.proofs.Common.{Option, Some, None, List, [], ◌∷◌, ◌≡◌, ◌++◌, OnOk, ap, subst, ◌∙◌, arith}
use Rattle.vcd_core.specs.BitEdges.{bit_edges_of}
use Rattle.vcd_core.specs.CaptureContents.{contents}
use Rattle.vcd_core.specs.Contents.{signal_at}
use Rattle.vcd_core.specs.WaveView.{WaveView}
use Rattle.vcd_decode.specs.LineEdges.{AreEdgesOf}
use Rattle.vcd_decode.proofs.shared.EdgeTicks.{bit_edges_are}
use Rattle.vcd_decode.proofs.shared.EventByEvent.{bus_lines}
use Rattle.vcd_remarks.specs.DecoderFindings.{told}
use Rattle.vcd_remarks.specs.Remarks.{remarks_text}
use Rattle.vcd_remarks.specs.inside.BusFindings.{bus_findings_left}
use Rattle.vcd_remarks.proofs.remarks.decoders.append_i2c_remarks.Goals as goal

pub returns : goal.returns
returns c =
    let here = contents c.args.capture.now in
    let scl = c.scalar_wave-scl in
    let sda = c.scalar_wave-sda in
    let waves : List (Option WaveView) = Some scl.result.now ∷ Some sda.result.now ∷ None ∷ None ∷ [] in
    subst (λ found. OnOk c.append_found.result (c.append_found.new.remarks.items ≡ c.args.text.now.items
    ++ remarks_text c.args.number (told found)))
    (ap (bus_findings_left c.new.result) (c.new-edges.ensures.edges here.end
    (scl.ensures.within, (sda.ensures.within, (tt, (tt, tt)))))
    ∙ c.new.ensures (signal_at here c.args.scl) (signal_at here c.args.sda) here.end
    (bit_edges_of waves here.end) (omega arith)
    (subst (λ lines. AreEdgesOf lines here.end (bit_edges_of waves here.end))
    (λ i. bus_lines (scl.ensures.letters i) (sda.ensures.letters i)) (bit_edges_are waves here.end)))
    c.append_found.ensures
