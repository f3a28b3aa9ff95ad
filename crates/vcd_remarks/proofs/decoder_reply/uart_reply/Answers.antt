use Rattle.std.proofs.Common.{Some, None, [], ◌∷◌, ◌++◌, codes, ap, sym, subst, ◌∙◌}
use Rattle.vcd_core.specs.Contents.{signal_at}
use Rattle.vcd_core.specs.Sound.{IsSoundSignal}
use Rattle.vcd_decode.specs.LineEdges.{AreEdgesOf}
use Rattle.vcd_decode.specs.Uart.{uart_annotations}
use Rattle.vcd_decode.specs.inside.UartFrames.{uart_annotations_left}
use Rattle.vcd_edit.specs.Effect.{signal_bit}
use Rattle.vcd_edit.proofs.shared.SoundEffects.{sound_at}
use Rattle.vcd_script.specs.AnnotationLines.{annotations_text}
use Rattle.vcd_script.specs.DecoderReply.{nibbles}
use Rattle.vcd_remarks.specs.DecoderFindings.{told, uart_findings}
use Rattle.vcd_remarks.proofs.decoder_reply.uart_reply.Goals as goal

pub returns-clause-text : goal.returns-clause-text
returns-clause-text c = λ here k edges last are.
    let line = signal_bit here k 0 in
    let digits = c.nibbles-digits.ensures ∙ ap nibbles c.data_bits.ensures.count in
    let found = ap (λ xs. xs ++ uart_annotations_left c.new-decoder.result edges) c.new-found.ensures.items
    ∙ c.new-decoder.ensures.frames line edges
    (subst (λ end. AreEdgesOf (Some line ∷ None ∷ None ∷ None ∷ []) end edges) last are.shown)
    ∙ ap (λ end. uart_annotations line end c.args.setup.now) (sym last) in
    λ i. annotations_text (codes "uart") (digits i) (found i)

pub returns-clause-remarks : goal.returns-clause-remarks
returns-clause-remarks c = λ here k edges last are.
    let s = signal_at here k in
    ap told (c.new-finder.ensures s edges
    (subst (λ end. IsSoundSignal end s) last (sound_at here k are.signals.0 are.sound)) are.signals.1
    (subst (λ end. AreEdgesOf (Some (signal_bit here k 0) ∷ None ∷ None ∷ None ∷ []) end edges) last are.shown)
    ∙ ap (λ end. uart_findings c.args.setup.now end s) (sym last))
