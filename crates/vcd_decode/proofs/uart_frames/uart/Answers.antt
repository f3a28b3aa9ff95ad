use Rattle.std.proofs.Common.{◌≡◌, Option, Some, None, List, [], ◌∷◌, IfOk, ap, subst, ◌∙◌}
use Rattle.vcd_core.specs.WaveView.{WaveView}
use Rattle.vcd_core.specs.BitEdges.{bit_edges_of}
use Rattle.vcd_decode.specs.inside.UartFrames.{uart_annotations_left}
use Rattle.vcd_decode.proofs.shared.EdgeTicks.{bit_edges_are}
use Rattle.vcd_decode.proofs.uart_frames.uart.Goals as goal

pub returns : goal.returns
returns c =
    let waves : List (Option WaveView) = Some c.args.wave.now ∷ None ∷ None ∷ None ∷ [] in
    subst (λ xs. IfOk c.decode_edges.result (λ found. found.items ≡ xs))
    (ap (uart_annotations_left c.new.result)
    (c.new-edges.ensures.edges c.args.end (c.requires.within, (tt, (tt, (tt, tt)))))
    ∙ c.new.ensures.frames _ (bit_edges_of waves c.args.end) (bit_edges_are waves c.args.end))
    c.decode_edges.ensures
