use Rattle.std.proofs.Common.{◌∷◌, ◌++◌, ap, sym, subst, ◌∙◌}
use Rattle.vcd_decode.specs.inside.SpiWords.{HasRoomForBit, SpiState, spi_annotations_left}
use Rattle.vcd_decode.proofs.shared.EdgeByEdge.{room_after, edge_taken}
use Rattle.vcd_decode.proofs.spi_words.SpiDecoderEdgeDecoder.take.Goals as goal

pub invariant_of-self : goal.invariant_of-self
invariant_of-self c = subst (HasRoomForBit c.self.inside.setup) (sym c.in_ok-self-inside.ensures.group)
    (room_after c.self.inside.setup c.self.inside.group c.args.edge.now c.self.invariant)

pub returns : goal.returns
returns c = λ more. edge_taken _ _ c.args.edge.now _ _ more
    c.in_ok-self-inside.ensures.appended c.in_ok-self-inside.ensures.group
    ∙ ap (λ (d : SpiState). c.args.found.now.items ++ spi_annotations_left d (c.args.edge.now ∷ more)) c.self.view_is
