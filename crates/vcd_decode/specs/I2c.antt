-- The annotations of an I2C bus (UM10204, 3.1); those of rests and unclear levels are the project's
-- own.
use Rattle.std.specs.Prelude.{ℕ, ◌-◌, ◌==◌, ◌&&◌, nat_le, Bool, true, false, Option, None, List, []}
use Rattle.std.specs.Prelude.{slice_get, filter_map, ◌∷◌, ◌++◌, length, take, drop, map}
use Rattle.std.specs.Prelude.{slice_index, if◌then◌else◌}
use Rattle.std.specs.List.{list_any}
use Rattle.vcd_core.specs.declared.bit.Bit.{Bit}
use Rattle.vcd_decode.specs.declared.annotation.Annotation.{Annotation}
use Rattle.vcd_decode.specs.declared.annotation.Kind.{Kind}
use Rattle.vcd_decode.specs.declared.annotation.Kind.TheVariants as kinds
use Rattle.vcd_decode.specs.declared.i2c_bus.events.BusBit.{BusBit}
use Rattle.vcd_decode.specs.declared.i2c_bus.events.BusEvent.{BusEvent}
use Rattle.vcd_decode.specs.declared.i2c_bus.events.BusEvent.TheVariants as events
use Rattle.vcd_decode.specs.declared.i2c_bus.bytes.ByteRole.{ByteRole}
use Rattle.vcd_decode.specs.declared.i2c_bus.bytes.ByteRole.TheVariants as roles
use Rattle.vcd_decode.specs.Lines.{annotation}
use Rattle.vcd_decode.specs.Groups.{groups_of}
use Rattle.vcd_decode.specs.BusEvents.{bus_events}
use Rattle.vcd_decode.specs.BusBytes.{number_of_bits, byte_kind, role_after, acknowledge_kind}
use Rattle.vcd_decode.specs.BusBytes.{ten_bit_address}

-- ---- the bits from a START to the next condition

-- the ticks of bits
abbrev pub ticks_of : List BusBit → List ℕ
ticks_of bits = map (λ b. b.tick) bits

-- an annotation from the first to the last tick of bits
abbrev pub bits_annotation : List BusBit → Kind → Annotation
bits_annotation bits kind = annotation (slice_index (ticks_of bits) 0)
    (slice_index (ticks_of bits) (length bits - 1)) kind

-- the annotations of nine bits: a byte and its acknowledge
abbrev pub byte_annotations : ByteRole → List BusBit → List Annotation
byte_annotations role nine =
    bits_annotation (take 8 nine) (byte_kind role (number_of_bits (take 8 nine)))
    ∷ bits_annotation (drop 8 nine) (acknowledge_kind (number_of_bits (drop 8 nine))) ∷ []

-- the annotation of a rest: at least two bits that a condition ends, with the rise of SCL before it
abbrev pub rest_annotations : Bool → List BusBit → List Annotation
rest_annotations ended rest = if ended && nat_le 2 (length rest)
    then bits_annotation rest (kinds.Unfinished (length rest)) ∷ [] else []

-- the bits up to a condition, cut into nines: a byte and its acknowledge each, and a rest
unfoldable pub nines_annotations : Bool → ByteRole → List (List BusBit) → List Annotation
nines_annotations ended role [] = []
nines_annotations ended role (nine ∷ nines) =
    if length nine == 9 then byte_annotations role nine
    ++ nines_annotations ended (role_after role (number_of_bits (take 8 nine))) nines
    else rest_annotations ended nine

-- ---- a whole bus

-- the bits up to the next condition
unfoldable pub bits_until : List BusEvent → List BusBit
bits_until [] = []
bits_until (events.Bit b ∷ es) = b ∷ bits_until es
bits_until (e ∷ es) = []

-- whether an event is a condition
abbrev pub is_condition : BusEvent → Bool
is_condition (events.Bit b) = false
is_condition e = true

-- the address of ten bits that annotations show, or none
unfoldable pub shown_address : List Annotation → Option ℕ
shown_address shown = slice_get (filter_map (λ a. ten_bit_address a.kind) shown) 0

-- the annotations of conditions and bits; `repeated`: the condition before them was a START, and
-- `given` is the address of ten bits after it, if there was one
unfoldable pub annotations_of_events : (repeated : Bool) → (given : Option ℕ) → List BusEvent
    → List Annotation
annotations_of_events repeated given [] = []
annotations_of_events repeated given (events.Bit b ∷ es) = annotations_of_events repeated given es
annotations_of_events repeated given (events.Stop t ∷ es) =
    annotation t t kinds.Stop ∷ annotations_of_events false None es
annotations_of_events repeated given (events.Start t ∷ es) =
    let shown = nines_annotations (list_any is_condition es) (roles.Address given)
    (groups_of 9 (bits_until es)) in
    annotation t t (if repeated then kinds.RepeatedStart else kinds.Start) ∷ shown
    ++ annotations_of_events true (shown_address shown) es

-- the annotations of the lines SCL and SDA at the ticks 0 to `end`
abbrev pub i2c_annotations : (ℕ → Bit) → (ℕ → Bit) → ℕ → List Annotation
i2c_annotations scl sda end = annotations_of_events false None (bus_events scl sda end)
