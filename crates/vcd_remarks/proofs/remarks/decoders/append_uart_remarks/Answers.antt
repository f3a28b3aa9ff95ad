use Rattle.std.proofs.Common.{◌≡◌, ℕ, Option, Some, None, List, [], ◌∷◌, ◌++◌, OnOk, ap, sym, subst, ◌∙◌}
use Rattle.vcd_core.specs.declared.bit.Bit.{Bit}
use Rattle.vcd_core.specs.BitEdges.{bit_edges_of}
use Rattle.vcd_core.specs.CaptureContents.{contents}
use Rattle.vcd_core.specs.Contents.{SignalContents, signal_at}
use Rattle.vcd_core.specs.Sound.{IsSoundSignal}
use Rattle.vcd_core.specs.Wave.{AllUpTo}
use Rattle.vcd_core.specs.WaveView.{WaveView}
use Rattle.vcd_decode.specs.LineEdges.{AreEdgesOf}
use Rattle.vcd_decode.proofs.shared.EdgeTicks.{bit_edges_are}
use Rattle.vcd_edit.proofs.shared.SoundEffects.{sound_at}
use Rattle.vcd_remarks.specs.DecoderFindings.{uart_findings, told}
use Rattle.vcd_remarks.specs.Remarks.{remarks_text}
use Rattle.vcd_remarks.specs.inside.UartFinder.{uart_findings_left}
use Rattle.vcd_remarks.proofs.remarks.decoders.append_uart_remarks.Goals as goal

pub returns : goal.returns
returns c =
    let here = contents c.args.capture.now in
    let wave = c.scalar_wave-wave in
    let s : SignalContents = signal_at here c.args.signal in
    let end : ℕ = c.end.result in
    let last : end ≡ here.end = c.end.ensures in
    let waves : List (Option WaveView) = Some wave.result.now ∷ None ∷ None ∷ None ∷ [] in
    let within : AllUpTo end wave.result.now.changes =
    subst (λ e. AllUpTo e wave.result.now.changes) (sym last) wave.ensures.within in
    let sound : IsSoundSignal end s = subst (λ e. IsSoundSignal e s) (sym last)
    (sound_at here c.args.signal c.requires.one_bit_signal.0 c.requires.sound) in
    subst (λ found. OnOk c.append_found.result (c.append_found.new.remarks.items ≡ c.args.text.now.items
    ++ remarks_text c.args.number (told found)))
    (ap (uart_findings_left c.new-finder.result) (c.new-edges.ensures.edges end (within, (tt, (tt, (tt, tt)))))
    ∙ c.new-finder.ensures s (bit_edges_of waves end) sound c.requires.one_bit_signal.1
    (subst (λ (f : ℕ → Bit). AreEdgesOf (Some f ∷ None ∷ None ∷ None ∷ []) end (bit_edges_of waves end))
    wave.ensures.letters (bit_edges_are waves end))
    ∙ ap (λ e. uart_findings c.args.setup.now e s) last)
    c.append_found.ensures
