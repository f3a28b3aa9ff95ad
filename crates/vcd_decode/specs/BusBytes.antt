-- The bytes of an I2C bus: addresses of seven and of ten bits, data, acknowledges (UM10204, 3.1.5,
-- 3.1.6, 3.1.10 and 3.1.11).
use Rattle.std.specs.Prelude.{ℕ, zero, suc, ◌+◌, ◌*◌, ◌/◌, ◌%◌, ◌==◌, Bool, Option, Some, None}
use Rattle.std.specs.Prelude.{List, fold, if◌then◌else◌}
use Rattle.vcd_decode.specs.declared.annotation.Kind.{Kind}
use Rattle.vcd_decode.specs.declared.annotation.Kind.TheVariants.{Unknown, Address, AddressHigh}
use Rattle.vcd_decode.specs.declared.annotation.Kind.TheVariants.{TenBitAddress, Ack, Nack}
use Rattle.vcd_decode.specs.declared.annotation.Kind.TheVariants as kinds
use Rattle.vcd_decode.specs.declared.annotation.Direction.{Direction}
use Rattle.vcd_decode.specs.declared.annotation.Direction.TheVariants.{Write, Read}
use Rattle.vcd_decode.specs.declared.i2c_bus.events.BusBit.{BusBit}
use Rattle.vcd_decode.specs.declared.i2c_bus.bytes.ByteRole.{ByteRole}
use Rattle.vcd_decode.specs.declared.i2c_bus.bytes.ByteRole.TheVariants as roles
use Rattle.vcd_decode.specs.Lines.{is_zero}
use Rattle.vcd_decode.specs.BusEvents.{is_line_high}

-- a number with one more bit after it; none if the bit is neither high nor low
abbrev pub number_with : Option ℕ → BusBit → Option ℕ
number_with None b = None
number_with (Some n) b = if is_line_high b.level
    then Some (2 * n + 1) else (if is_zero b.level then Some (2 * n) else None)

-- the number that bits give, most significant first
abbrev pub number_of_bits : List BusBit → Option ℕ
number_of_bits bits = fold number_with (Some 0) bits

-- ---- the byte after a START

-- the direction by its last bit: at 1 the target sends, at 0 the controller
abbrev pub direction_of : ℕ → Direction
direction_of n = if n % 2 == 1 then Read else Write

-- whether a byte begins an address of ten bits: 11110
abbrev pub is_ten_bit : ℕ → Bool
is_ten_bit n = n / 8 == 30

-- the two high bits of an address of ten bits
abbrev pub high_bits : ℕ → ℕ
high_bits n = n / 2 % 4

-- the kind of an address of ten bits: a read at the address just before the START, if it has the
-- same high bits
abbrev pub ten_bit_kind : Option ℕ → ℕ → Direction → Kind
ten_bit_kind (Some a) high Read = if a / 256 == high then TenBitAddress a Read
    else AddressHigh high Read
ten_bit_kind given high direction = AddressHigh high direction

-- the kind of any address
abbrev pub address_kind : Option ℕ → ℕ → Kind
address_kind given n = if is_ten_bit n
    then ten_bit_kind given (high_bits n) (direction_of n) else Address (n / 2) (direction_of n)

-- ---- any byte

-- the kind of a byte
abbrev pub byte_kind : ByteRole → Option ℕ → Kind
byte_kind role None = Unknown
byte_kind (roles.Address given) (Some n) = address_kind given n
byte_kind (roles.AddressLow high) (Some n) = TenBitAddress (256 * high + n) Write
byte_kind roles.Data (Some n) = kinds.Data n

-- the role of the byte after an address: its second byte if ten bits are written, or data
abbrev pub role_after_address : ℕ → Direction → ByteRole
role_after_address n Write = if is_ten_bit n then roles.AddressLow (high_bits n) else roles.Data
role_after_address n Read = roles.Data

-- the role of the byte after a byte
abbrev pub role_after : ByteRole → Option ℕ → ByteRole
role_after (roles.Address given) (Some n) = role_after_address n (direction_of n)
role_after role byte = roles.Data

-- the kind of an acknowledge bit: low for a byte that was taken
abbrev pub acknowledge_kind : Option ℕ → Kind
acknowledge_kind None = Unknown
acknowledge_kind (Some zero) = Ack
acknowledge_kind (Some (suc n)) = Nack

-- the address of ten bits that an annotation shows
abbrev pub ten_bit_address : Kind → Option ℕ
ten_bit_address (TenBitAddress a d) = Some a
ten_bit_address kind = None
