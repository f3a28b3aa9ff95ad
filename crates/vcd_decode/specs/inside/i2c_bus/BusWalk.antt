-- The walk over the events of an I2C bus: the state between two events, and the annotations of one.
use Rattle.std.specs.Prelude.{ℕ, ◌+◌, ◌^◌, ◌<◌, ◌≤◌, ◌==◌, nat_le, if◌then◌else◌, Option, Some}
use Rattle.std.specs.Prelude.{None, IfSome, unwrap_or, List, [], ◌∷◌, ◌++◌, fold, filter_map}
use Rattle.std.specs.Option.{option_or}
use Rattle.vcd_core.specs.declared.bit.Bit.{Bit}
use Rattle.vcd_core.specs.declared.bit.Bit.TheVariants.{X}
use Rattle.vcd_core.specs.declared.bit_edges.BitEdge.{BitEdge}
use Rattle.vcd_decode.specs.declared.annotation.Annotation.{Annotation}
use Rattle.vcd_decode.specs.declared.annotation.Kind.{Kind}
use Rattle.vcd_decode.specs.declared.annotation.Kind.TheVariants as kinds
use Rattle.vcd_decode.specs.declared.i2c_bus.events.BusLevels.{BusLevels}
use Rattle.vcd_decode.specs.declared.i2c_bus.events.BusBit.{BusBit}
use Rattle.vcd_decode.specs.declared.i2c_bus.events.BusEvent.{BusEvent}
use Rattle.vcd_decode.specs.declared.i2c_bus.events.BusEvent.TheVariants as events
use Rattle.vcd_decode.specs.declared.i2c_bus.bytes.ByteRole.TheVariants as roles
use Rattle.vcd_decode.specs.declared.i2c_bus.bytes.PartialByte.{PartialByte}
use Rattle.vcd_decode.specs.declared.i2c_bus.transfer.Transfer.{Transfer}
use Rattle.vcd_decode.specs.Lines.{annotation}
use Rattle.vcd_decode.specs.inside.PartialWord.{line_bit}
use Rattle.vcd_decode.specs.inside.i2c_bus.Events.{bus_event}
use Rattle.vcd_decode.specs.BusBytes.{number_with, byte_kind, role_after, acknowledge_kind}
use Rattle.vcd_decode.specs.BusBytes.{ten_bit_address}

-- ---- the bits at hand

-- no bit of a byte yet
abbrev pub no_bits : PartialByte
no_bits = record { count = 0; first = 0; last = 0; number = Some 0 }

-- the bits and one more
abbrev pub partial_byte_with : PartialByte → BusBit → PartialByte
partial_byte_with p b = record {
  count = p.count + 1;
  first = if p.count == 0 then b.tick else p.first;
  last = b.tick;
  number =
      number_with p.number b;
}

-- the state of a byte with these bits
abbrev pub partial_byte_of : List BusBit → PartialByte
partial_byte_of bits = fold partial_byte_with no_bits bits

-- at most eight bits, with a number that fits them
abbrev pub IsPartialByte : PartialByte → Type 0
IsPartialByte p = (p.count ≤ 8) × IfSome p.number (λ n. n < 2 ^ p.count)

-- ---- the state since the last START, none after a STOP

-- the current transfer, if there is one, is sound
abbrev pub IsSoundTransfer : Option Transfer → Type 0
IsSoundTransfer bus = IfSome bus (λ t. IsPartialByte t.byte)

-- the address of ten bits that came since the START
abbrev pub bus_address : Option Transfer → Option ℕ
bus_address None = None
bus_address (Some t) = t.address

-- a new transfer
abbrev pub new_transfer : Option Transfer → Transfer
new_transfer bus = record { role = roles.Address (bus_address bus); byte = no_bits; address = None }

-- the kind of a START
abbrev pub bus_start_kind : Option Transfer → Kind
bus_start_kind None = kinds.Start
bus_start_kind (Some t) = kinds.RepeatedStart

-- the annotations of the current bits when a condition comes
abbrev pub transfer_rest_annotations : Option Transfer → List Annotation
transfer_rest_annotations None = []
transfer_rest_annotations (Some t) =
    if nat_le 2 t.byte.count
    then annotation t.byte.first t.byte.last (kinds.Unfinished t.byte.count) ∷ [] else []

-- ---- one bit

-- the current byte and the acknowledge
abbrev pub whole_byte_annotations : Transfer → BusBit → List Annotation
whole_byte_annotations t b =
    annotation t.byte.first t.byte.last (byte_kind t.role t.byte.number)
    ∷ annotation b.tick b.tick (acknowledge_kind (number_with (Some 0) b)) ∷ []

-- the transfer after them
abbrev pub transfer_after_byte : Transfer → Transfer
transfer_after_byte t = record {
  role = role_after t.role t.byte.number;
  byte = no_bits;
  address = option_or t.address (ten_bit_address (byte_kind t.role t.byte.number));
}

-- the annotations of a bit of a transfer
abbrev pub bit_annotations : Transfer → BusBit → List Annotation
bit_annotations t b = if t.byte.count == 8 then whole_byte_annotations t b else []

-- the transfer after a bit of it
abbrev pub transfer_after_bit : Transfer → BusBit → Transfer
transfer_after_bit t b =
    if t.byte.count == 8 then transfer_after_byte t
    else record t { byte = partial_byte_with t.byte b }

-- ---- any event

-- the annotations of an event on the bus
abbrev pub event_annotations : Option Transfer → BusEvent → List Annotation
event_annotations bus (events.Start t) =
    transfer_rest_annotations bus ++ annotation t t (bus_start_kind bus) ∷ []
event_annotations bus (events.Stop t) =
    transfer_rest_annotations bus ++ annotation t t kinds.Stop ∷ []
event_annotations None (events.Bit b) = []
event_annotations (Some t) (events.Bit b) = bit_annotations t b

-- the current transfer after an event, if there is one
abbrev pub bus_after : Option Transfer → BusEvent → Option Transfer
bus_after bus (events.Start t) = Some (new_transfer bus)
bus_after bus (events.Stop t) = None
bus_after None (events.Bit b) = None
bus_after (Some t) (events.Bit b) = Some (transfer_after_bit t b)

-- the annotations of a list of events
unfoldable pub walk_annotations : Option Transfer → List BusEvent → List Annotation
walk_annotations bus [] = []
walk_annotations bus (e ∷ es) = event_annotations bus e ++ walk_annotations (bus_after bus e) es

-- ---- edges

-- the levels of the first two lines of an edge, x if one is absent
abbrev pub levels_of : List (Option Bit) → BusLevels
levels_of bits = record {
  scl = unwrap_or (line_bit bits 0) X;
  sda = unwrap_or (line_bit bits 1) X;
}

-- the event at an edge
abbrev pub edge_event : BitEdge → Option BusEvent
edge_event e = bus_event e.tick (levels_of e.before) (levels_of e.at)

-- the events at edges
abbrev pub edge_events : List BitEdge → List BusEvent
edge_events edges = filter_map edge_event edges

-- the annotations that a decoder in this state has left to give for the edges to come
abbrev pub i2c_annotations_left : Option Transfer → List BitEdge → List Annotation
i2c_annotations_left bus edges = walk_annotations bus (edge_events edges)
