use Rattle.std.proofs.Common.{None, ◌∙◌}
use Rattle.vcd_core.specs.declared.bit.Bit.TheVariants.{X}
use Rattle.vcd_decode.specs.inside.UartFrames.{uart_annotations_left}
use Rattle.vcd_decode.proofs.shared.FramesByEdges.{frames_are, state}
use Rattle.vcd_decode.proofs.uart_frames.UartDecoder.new.Goals as goal

pub returns-clause-frames : goal.returns-clause-frames
returns-clause-frames c = λ f edges are.
    (λ i. uart_annotations_left (state f c.args.end c.args.setup X (c.new.ensures.items i) None
    (c.new-2.ensures.items i)) edges)
    ∙ frames_are c.args.setup c.args.end f edges are
