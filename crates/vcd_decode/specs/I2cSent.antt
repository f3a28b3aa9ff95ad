-- The lines that a controller and its targets drive on an I2C bus (UM10204, 3.1): what `I2c` is to
-- give back.
use Rattle.std.specs.Prelude.{ℕ, suc, ◌+◌, ◌*◌, ◌/◌, ◌%◌, ◌<◌, ◌≤◌, ◌≡◌, ◌≢◌, Bool, if◌then◌else◌}
use Rattle.std.specs.Prelude.{List, [], ◌∷◌, ◌++◌, map, reverse, get_or, length, ⊤, Option, Some}
use Rattle.std.specs.Prelude.{None, IfSome}
use Rattle.std.specs.List.{flat_map}
use Rattle.vcd_core.specs.declared.bit.Bit.{Bit}
use Rattle.vcd_core.specs.declared.bit.Bit.TheVariants.{Zero, One}
use Rattle.vcd_decode.specs.declared.annotation.Annotation.{Annotation}
use Rattle.vcd_decode.specs.declared.annotation.Kind.{Kind}
use Rattle.vcd_decode.specs.declared.annotation.Kind.TheVariants as kinds
use Rattle.vcd_decode.specs.declared.annotation.Direction.{Direction}
use Rattle.vcd_decode.specs.declared.annotation.Direction.TheVariants.{Write, Read}
use Rattle.vcd_decode.specs.declared.i2c_bus.events.BusLevels.{BusLevels}
use Rattle.vcd_decode.specs.Lines.{annotation}
use Rattle.vcd_decode.specs.SentLevels.{data_levels}

-- ---- messages

-- a data byte, and whether its receiver takes it
pub record DataByte : Type 0 where
  pub byte : ℕ
  pub taken : Bool

-- what follows a START: an address, whether each of its bytes is taken, and data. A read from an
-- address of ten bits sends its first byte alone (UM10204, 3.1.10 and 3.1.11)
pub data Transfer : Type 0 where
  seven_bit : (address : ℕ) → Direction → (taken : Bool) → List DataByte → Transfer
  ten_bit_write : (address : ℕ) → (high_taken low_taken : Bool) → List DataByte → Transfer
  ten_bit_read : (address : ℕ) → (taken : Bool) → List DataByte → Transfer
  -- such a read that does not follow a transfer with an address of these two high bits
  high_bits_read : (high : ℕ) → (taken : Bool) → List DataByte → Transfer

-- each is a byte, below 256
unfoldable pub AreBytes : List DataByte → Type 0
AreBytes [] = ⊤
AreBytes (b ∷ bs) = (b.byte < 256) × AreBytes bs

-- a transfer after one with this address of ten bits, or after none: no address of seven bits
-- begins with 11110, and a read from ten bits follows a transfer with the same address
abbrev pub IsTransfer : Option ℕ → Transfer → Type 0
IsTransfer given (seven_bit address direction taken bytes) = (address < 128) × (address / 4 ≢ 30)
    × AreBytes bytes
IsTransfer given (ten_bit_write address high_taken low_taken bytes) = (address < 1024)
    × AreBytes bytes
IsTransfer given (ten_bit_read address taken bytes) = (address < 1024) × (given ≡ Some address)
    × AreBytes bytes
IsTransfer given (high_bits_read high taken bytes) = (high < 4)
    × IfSome given (λ address. address / 256 ≢ high) × AreBytes bytes

-- the address of ten bits of a transfer, if it has one
abbrev pub ten_bits_of : Transfer → Option ℕ
ten_bits_of (seven_bit address direction taken bytes) = None
ten_bits_of (ten_bit_write address high_taken low_taken bytes) = Some address
ten_bits_of (ten_bit_read address taken bytes) = Some address
ten_bits_of (high_bits_read high taken bytes) = None

-- transfers one after the other, after one with this address of ten bits, or after none
unfoldable pub AreTransfers : Option ℕ → List Transfer → Type 0
AreTransfers given [] = ⊤
AreTransfers given (t ∷ ts) = IsTransfer given t × AreTransfers (ten_bits_of t) ts

-- ---- bytes

-- a byte on the bus, whether it is taken, and the kind that it is to have
pub record SentByte : Type 0 where
  pub byte : ℕ
  pub taken : Bool
  pub kind : Kind

-- a byte of these parts
abbrev pub sent_byte : ℕ → Bool → Kind → SentByte
sent_byte byte taken kind = record { byte = byte; taken = taken; kind = kind }

-- the last bit of an address: 0 if the controller writes, 1 if it reads
abbrev pub direction_bit : Direction → ℕ
direction_bit Write = 0
direction_bit Read = 1

-- the bytes of data
abbrev pub data_bytes : List DataByte → List SentByte
data_bytes bytes = map (λ b. sent_byte b.byte b.taken (kinds.Data b.byte)) bytes

-- the bytes of a transfer: seven bits and the direction, or 11110, the two high bits of ten and the
-- direction
abbrev pub transfer_bytes : Transfer → List SentByte
transfer_bytes (seven_bit address direction taken bytes) =
    sent_byte (2 * address + direction_bit direction) taken (kinds.Address address direction)
    ∷ data_bytes bytes
transfer_bytes (ten_bit_write address high_taken low_taken bytes) =
    sent_byte (240 + 2 * (address / 256)) high_taken (kinds.AddressHigh (address / 256) Write)
    ∷ sent_byte (address % 256) low_taken (kinds.TenBitAddress address Write) ∷ data_bytes bytes
transfer_bytes (ten_bit_read address taken bytes) =
    sent_byte (241 + 2 * (address / 256)) taken (kinds.TenBitAddress address Read)
    ∷ data_bytes bytes
transfer_bytes (high_bits_read high taken bytes) =
    sent_byte (241 + 2 * high) taken (kinds.AddressHigh high Read) ∷ data_bytes bytes

-- ---- the levels of both lines

-- the levels of SCL and SDA
abbrev pub levels : Bit → Bit → BusLevels
levels scl sda = record { scl = scl; sda = sda }

-- a START: SDA falls while SCL is high (UM10204, 3.1.4)
abbrev pub start_levels : List BusLevels
start_levels = levels One One ∷ levels One Zero ∷ levels Zero Zero ∷ []

-- a STOP: SDA rises while SCL is high
abbrev pub stop_levels : List BusLevels
stop_levels = levels Zero Zero ∷ levels One Zero ∷ levels One One ∷ []

-- a bit: SDA is still while SCL is high (UM10204, 3.1.3)
abbrev pub bit_levels : Bit → List BusLevels
bit_levels b = levels Zero b ∷ levels One b ∷ levels Zero b ∷ []

-- the eight bits of a byte, the most significant first, and its acknowledge: low if it is taken
-- (UM10204, 3.1.5, 3.1.6)
abbrev pub byte_bits : SentByte → List Bit
byte_bits b = reverse (data_levels 8 b.byte) ++ (if b.taken then Zero else One) ∷ []

-- a START and the bytes of a transfer
abbrev pub transfer_levels : Transfer → List BusLevels
transfer_levels t = start_levels ++ flat_map bit_levels (flat_map byte_bits (transfer_bytes t))

-- what follows the bits of a transfer: a repeated START, for which SDA rises while SCL is low, or a
-- STOP
unfoldable pub later_levels : List Transfer → List BusLevels
later_levels [] = stop_levels
later_levels (t ∷ ts) = levels Zero One ∷ transfer_levels t ++ later_levels ts

-- a message of one transfer or more
abbrev pub message_levels : Transfer → List Transfer → List BusLevels
message_levels t ts = transfer_levels t ++ later_levels ts

-- the lines have one of these levels after the other, that at index i from the tick `at i` to
-- before `at (suc i)`
abbrev pub HaveLevels : (scl sda : ℕ → Bit) → (at : ℕ → ℕ) → List BusLevels → Type 0
HaveLevels scl sda at all =
    (i t : ℕ) → i < length all → at i ≤ t → t < at (suc i)
    → (scl t ≡ (get_or all i (levels One One)).scl) × (sda t ≡ (get_or all i (levels One One)).sda)

-- ---- what is to be found, where the level at index i begins at the tick `at i`

-- the kind of an acknowledge
abbrev pub acknowledge : Bool → Kind
acknowledge taken = if taken then kinds.Ack else kinds.Nack

-- bytes whose levels begin at index i: each from the rise of SCL in its first bit to that in its
-- eighth, and the acknowledge at its own
unfoldable pub sent_bytes : (ℕ → ℕ) → ℕ → List SentByte → List Annotation
sent_bytes at i [] = []
sent_bytes at i (b ∷ bs) =
    annotation (at (i + 1)) (at (i + 22)) b.kind
    ∷ annotation (at (i + 25)) (at (i + 25)) (acknowledge b.taken)
    ∷ sent_bytes at (i + 27) bs

-- a START and the bytes of a transfer
abbrev pub sent_transfer : (ℕ → ℕ) → ℕ → Kind → Transfer → List Annotation
sent_transfer at i start t =
    annotation (at (i + 1)) (at (i + 1)) start ∷ sent_bytes at (i + 3) (transfer_bytes t)

-- repeated STARTs with their transfers, and a STOP
unfoldable pub later_annotations : (ℕ → ℕ) → ℕ → List Transfer → List Annotation
later_annotations at i [] = annotation (at (i + 2)) (at (i + 2)) kinds.Stop ∷ []
later_annotations at i (t ∷ ts) =
    sent_transfer at (i + 1) kinds.RepeatedStart t
    ++ later_annotations at (i + 1 + length (transfer_levels t)) ts

-- a whole message
abbrev pub message_annotations : (ℕ → ℕ) → Transfer → List Transfer → List Annotation
message_annotations at t ts =
    sent_transfer at 0 kinds.Start t ++ later_annotations at (length (transfer_levels t)) ts
