use Rattle.std.proofs.Common.{Option, Some, List, [], ◌∷◌, ◌++◌, codes, ap, sym, subst, ◌∙◌, arith}
use Rattle.std.specs.Option.{option_map}
use Rattle.vcd_core.specs.Contents.{signal_at}
use Rattle.vcd_decode.specs.LineEdges.{AreEdgesOf}
use Rattle.vcd_decode.specs.inside.SpiWords.{spi_annotations_left}
use Rattle.vcd_edit.specs.Effect.{signal_bit}
use Rattle.vcd_script.specs.AnnotationLines.{annotations_text}
use Rattle.vcd_script.specs.DecoderReply.{nibbles}
use Rattle.vcd_remarks.specs.DecoderFindings.{told}
use Rattle.vcd_remarks.proofs.remarks.FindingsOfSignals.{chip_line, line_sound, lines_sound, same_presence}
use Rattle.vcd_remarks.proofs.decoder_reply.spi_reply.Goals as goal

pub returns-clause-text : goal.returns-clause-text
returns-clause-text c = λ here edges are.
    let bus = c.args.bus.now in
    let line = option_map (λ k. signal_bit here k 0) in
    let digits = c.nibbles-digits.ensures ∙ ap nibbles c.bits.ensures.bits in
    let found = ap (λ xs. xs ++ spi_annotations_left c.new-decoder.result edges) c.new-found.ensures.items
    ∙ c.new-decoder.ensures (signal_bit here bus.clk 0) (line bus.mosi) (line bus.miso) (line bus.cs) here.end edges
    are.shown in
    λ i. annotations_text (codes "spi") (digits i) (found i)

pub returns-clause-remarks : goal.returns-clause-remarks
returns-clause-remarks c = λ here edges are.
    let bus = c.args.bus.now in
    let at = option_map (signal_at here) in
    let out = chip_line (signal_at here) bus.mosi in
    let back = chip_line (signal_at here) bus.miso in
    let chip = chip_line (signal_at here) bus.cs in
    ap told (c.new-finder.ensures (signal_at here bus.clk) (at bus.mosi) (at bus.miso) (at bus.cs) here.end edges
    (same_presence (signal_at here) bus.mosi ∙ sym (ap (λ lines. lines.mosi) c.present_lines.ensures))
    (same_presence (signal_at here) bus.miso ∙ sym (ap (λ lines. lines.miso) c.present_lines.ensures))
    (same_presence (signal_at here) bus.cs ∙ sym (ap (λ lines. lines.cs) c.present_lines.ensures))
    (omega (arith, are.sound.end))
    (line_sound here are.sound bus.clk are.signals.0)
    (lines_sound here are.sound bus.mosi are.signals.1)
    (lines_sound here are.sound bus.miso are.signals.2)
    (subst (λ lines. AreEdgesOf lines here.end edges)
    (λ i. Some (signal_bit here bus.clk 0) ∷ out i ∷ back i ∷ chip i ∷ []) are.shown))
