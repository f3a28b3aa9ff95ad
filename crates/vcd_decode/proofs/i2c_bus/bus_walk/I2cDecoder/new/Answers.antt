use Rattle.vcd_decode.proofs.shared.EventByEvent.{bus_annotations_are}
use Rattle.vcd_decode.proofs.i2c_bus.bus_walk.I2cDecoder.new.Goals as goal

pub returns : goal.returns
returns c = bus_annotations_are
