-- Worked cases of an I2C bus: from its events on, each a bus of 20 to 60 changes, and messages that are sent.
use Rattle.std.proofs.Common.{◌≡◌, refl}
use Rattle.std.specs.Prelude.{ℕ, ◌+◌, ◌/◌, ◌%◌, ◌^◌, ◌==◌, if◌then◌else◌, None, List, [], ◌∷◌, ◌++◌, map, false, suc}
use Rattle.std.specs.Prelude.{◌-◌, ◌*◌, nat_lt, true, length, get_or}
use Rattle.vcd_core.specs.declared.bit.Bit.{Bit}
use Rattle.vcd_core.specs.declared.bit.Bit.TheVariants.{Zero, One, X, Z}
use Rattle.vcd_decode.specs.declared.annotation.Annotation.{Annotation}
use Rattle.vcd_decode.specs.declared.annotation.Kind.{Kind}
use Rattle.vcd_decode.specs.declared.annotation.Kind.TheVariants.{Unknown, Unfinished, Start, RepeatedStart, Stop}
use Rattle.vcd_decode.specs.declared.annotation.Kind.TheVariants.{Address, AddressHigh, TenBitAddress, Data, Ack, Nack}
use Rattle.vcd_decode.specs.declared.annotation.Direction.TheVariants.{Write, Read}
use Rattle.vcd_decode.specs.declared.i2c_bus.events.BusEvent.{BusEvent}
use Rattle.vcd_decode.specs.declared.i2c_bus.events.BusEvent.TheVariants as events
use Rattle.vcd_decode.specs.Lines.{annotation}
use Rattle.vcd_decode.specs.Groups.{groups_of}
use Rattle.vcd_decode.specs.I2c.{nines_annotations, bits_until, shown_address, annotations_of_events, i2c_annotations}
use Rattle.vcd_decode.specs.declared.i2c_bus.events.BusLevels.{BusLevels}
use Rattle.vcd_decode.specs.BusEvents.{bus_events}
use Rattle.vcd_decode.specs.SentLevels.{data_levels}
use Rattle.vcd_decode.specs.I2cSent.{Transfer, seven_bit, ten_bit_write, ten_bit_read, levels, later_levels}
use Rattle.vcd_decode.specs.I2cSent.{message_levels, message_annotations, sent_bytes, later_annotations}

-- ==== worked cases of an I2C bus, from its events on: each is a bus of 20 to 60 changes

abbrev at : ℕ → Kind → Annotation
at tick kind = annotation tick tick kind

-- bits from a tick on, one a tick
abbrev pub bits : ℕ → List Bit → List BusEvent
bits tick [] = []
bits tick (level ∷ levels) = events.Bit (record { tick = tick; level = level }) ∷ bits (tick + 1) levels

-- a byte that is acknowledged
abbrev pub byte : ℕ → ℕ → List BusEvent
byte tick n = bits tick (map (λ k. if n / 2 ^ k % 2 == 1 then One else Zero) (7 ∷ 6 ∷ 5 ∷ 4 ∷ 3 ∷ 2 ∷ 1 ∷ 0 ∷ [])
    ++ Zero ∷ [])

-- eight bits without an acknowledge are no byte
eight_bits : annotations_of_events false None
    (events.Start 0 ∷ bits 1 (One ∷ Zero ∷ One ∷ Zero ∷ One ∷ Zero ∷ One ∷ Zero ∷ []) ++ events.Stop 9 ∷ [])
    ≡ at 0 Start ∷ annotation 1 8 (Unfinished 8) ∷ at 9 Stop ∷ []
unfolding groups_of nines_annotations bits_until shown_address annotations_of_events
eight_bits = refl

-- at the capture's end an unfinished byte gives nothing, and whole ones are annotations
cut_off : annotations_of_events false None (events.Start 0 ∷ byte 1 7 ++ bits 10 (Zero ∷ Zero ∷ []))
    ≡ at 0 Start ∷ annotation 1 8 (Address 3 Read) ∷ at 9 Ack ∷ []
unfolding groups_of nines_annotations bits_until shown_address annotations_of_events
cut_off = refl

-- bits before a START and after a STOP belong to nothing
outside : annotations_of_events false None
    (byte 1 7 ++ events.Start 10 ∷ events.Stop 11 ∷ byte 12 7 ++ events.Start 21 ∷ [])
    ≡ at 10 Start ∷ at 11 Stop ∷ at 21 Start ∷ []
unfolding groups_of nines_annotations bits_until shown_address annotations_of_events
outside = refl

-- an acknowledge that is x; data after an address that is unknown
unknown_acknowledge : annotations_of_events false None
    (events.Start 0 ∷ bits 1 (Zero ∷ Zero ∷ Zero ∷ Zero ∷ Zero ∷ Zero ∷ Zero ∷ X ∷ X ∷ []) ++ byte 10 7
    ++ events.Stop 19 ∷ [])
    ≡ at 0 Start ∷ annotation 1 8 Unknown ∷ at 9 Unknown ∷ annotation 10 17 (Data 7) ∷ at 18 Ack ∷ at 19 Stop ∷ []
unfolding groups_of nines_annotations bits_until shown_address annotations_of_events
unknown_acknowledge = refl

-- an address of ten bits is read again also after a read of it; data follow its second byte
read_twice : annotations_of_events false None (events.Start 0 ∷ byte 1 244 ++ byte 10 165 ++ byte 19 9
    ++ events.Start 28 ∷ byte 29 245 ++ events.Start 38 ∷ byte 39 245)
    ≡ at 0 Start ∷ annotation 1 8 (AddressHigh 2 Write) ∷ at 9 Ack ∷ annotation 10 17 (TenBitAddress 677 Write)
    ∷ at 18 Ack ∷ annotation 19 26 (Data 9) ∷ at 27 Ack
    ∷ at 28 RepeatedStart ∷ annotation 29 36 (TenBitAddress 677 Read) ∷ at 37 Ack ∷ at 38 RepeatedStart
    ∷ annotation 39 46 (TenBitAddress 677 Read) ∷ at 47 Ack ∷ []
unfolding groups_of nines_annotations bits_until shown_address annotations_of_events
read_twice = refl

-- not where there is a STOP between them
read_after_stop : annotations_of_events false None (events.Start 0 ∷ byte 1 244 ++ byte 10 165
    ++ events.Stop 19 ∷ events.Start 20 ∷ byte 21 245)
    ≡ at 0 Start ∷ annotation 1 8 (AddressHigh 2 Write) ∷ at 9 Ack ∷ annotation 10 17 (TenBitAddress 677 Write)
    ∷ at 18 Ack ∷ at 19 Stop ∷ at 20 Start ∷ annotation 21 28 (AddressHigh 2 Read) ∷ at 29 Ack ∷ []
unfolding groups_of nines_annotations bits_until shown_address annotations_of_events
read_after_stop = refl

-- nor with other high bits, nor after another address
read_of_another : annotations_of_events false None
    (events.Start 0 ∷ byte 1 244 ++ byte 10 165 ++ events.Start 19 ∷ byte 20 243 ++ events.Start 29 ∷ byte 30 245)
    ≡ at 0 Start ∷ annotation 1 8 (AddressHigh 2 Write) ∷ at 9 Ack ∷ annotation 10 17 (TenBitAddress 677 Write)
    ∷ at 18 Ack ∷ at 19 RepeatedStart ∷ annotation 20 27 (AddressHigh 1 Read) ∷ at 28 Ack ∷ at 29 RepeatedStart
    ∷ annotation 30 37 (AddressHigh 2 Read) ∷ at 38 Ack ∷ []
unfolding groups_of nines_annotations bits_until shown_address annotations_of_events
read_of_another = refl

-- nor where the second byte was unknown
read_of_unknown : annotations_of_events false None
    (events.Start 0 ∷ byte 1 244 ++ bits 10 (One ∷ Zero ∷ One ∷ X ∷ Zero ∷ One ∷ Zero ∷ One ∷ Zero ∷ [])
    ++ events.Start 19 ∷ byte 20 245)
    ≡ at 0 Start ∷ annotation 1 8 (AddressHigh 2 Write) ∷ at 9 Ack ∷ annotation 10 17 Unknown ∷ at 18 Ack
    ∷ at 19 RepeatedStart ∷ annotation 20 27 (AddressHigh 2 Read) ∷ at 28 Ack ∷ []
unfolding groups_of nines_annotations bits_until shown_address annotations_of_events
read_of_unknown = refl

-- ==== worked cases: I2C messages that are sent

-- the levels at a tick, where that at index i begins at the tick `at i`
level_at : (ℕ → ℕ) → ℕ → List BusLevels → ℕ → BusLevels
level_at at i [] t = levels One One
level_at at i (p ∷ ps) t = if nat_lt t (at (suc i)) then p else level_at at (suc i) ps t

found : (ℕ → ℕ) → Transfer → List Transfer → List Annotation
unfolding bus_events annotations_of_events nines_annotations bits_until shown_address groups_of
found at t ts =
    let all = message_levels t ts in
    i2c_annotations (λ s. (level_at at 0 all s).scl) (λ s. (level_at at 0 all s).sda) (at (length all) - 1)

-- levels of three ticks and of one in turn
uneven : ℕ → ℕ
uneven i = 2 * i + i % 2

write : Transfer
write = seven_bit 80 Write true (record { byte = 7; taken = false } ∷ [])

write_is_found : found uneven write []
    ≡ annotation 3 3 Start ∷ annotation 8 51 (Address 80 Write) ∷ annotation 56 56 Ack ∷ annotation 63 104 (Data 7)
    ∷ annotation 111 111 Nack ∷ annotation 119 119 Stop ∷ []
unfolding found uneven write level_at later_levels data_levels
write_is_found = refl

-- a write to ten bits, 0x3a5, and the read after it
ten_bits : Transfer
ten_bits = ten_bit_write 933 true true []

read : Transfer
read = ten_bit_read 933 true (record { byte = 255; taken = false } ∷ [])

ten_bits_are_found : found (λ i. i) ten_bits (read ∷ [])
    ≡ annotation 1 1 Start ∷ annotation 4 25 (AddressHigh 3 Write) ∷ annotation 28 28 Ack
    ∷ annotation 31 52 (TenBitAddress 933 Write) ∷ annotation 55 55 Ack ∷ annotation 59 59 RepeatedStart
    ∷ annotation 62 83 (TenBitAddress 933 Read) ∷ annotation 86 86 Ack ∷ annotation 89 110 (Data 255)
    ∷ annotation 113 113 Nack ∷ annotation 117 117 Stop ∷ []
unfolding found ten_bits read level_at later_levels data_levels
ten_bits_are_found = refl

-- the definition of what is to be found gives the same
ten_bits_are_sent : message_annotations (λ i. i) ten_bits (read ∷ []) ≡ found (λ i. i) ten_bits (read ∷ [])
unfolding found ten_bits read level_at later_levels data_levels sent_bytes later_annotations
ten_bits_are_sent = refl
