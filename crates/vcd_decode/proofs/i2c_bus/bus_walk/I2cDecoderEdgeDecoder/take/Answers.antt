use Rattle.std.proofs.Common.{◌∷◌, ◌++◌, Option, ap, sym, ◌∙◌}
use Rattle.vcd_decode.specs.declared.i2c_bus.transfer.Transfer.{Transfer}
use Rattle.vcd_decode.specs.inside.i2c_bus.BusWalk.{edge_event, edge_events, i2c_annotations_left}
use Rattle.vcd_decode.proofs.shared.EventByEvent.{event_taken}
use Rattle.vcd_decode.proofs.i2c_bus.bus_walk.I2cDecoderEdgeDecoder.take.Goals as goal

pub returns-in_ok-self-inside : goal.returns-in_ok-self-inside
returns-in_ok-self-inside c = λ more.
    let edge = c.args.edge.now in
    event_taken _ _ _ _ (edge_event edge) c.in-Some.event (edge_events more)
    (sym c.edge_event.ensures ∙ c.in-Some.is) c.in_ok-self-inside.ensures.annotations
    c.in_ok-self-inside.ensures.transfer
    ∙ ap (λ (d : Option Transfer). c.args.found.now.items ++ i2c_annotations_left d (edge ∷ more)) c.self.view_is
