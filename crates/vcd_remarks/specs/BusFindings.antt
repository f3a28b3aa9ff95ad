-- What is found of the events on an I2C bus (UM10204, 3.1): conditions and bits in places where no
-- transfer has them. The project's own.
use Rattle.std.specs.Prelude.{ℕ, ◌+◌, ◌%◌, ◌==◌, ◌&&◌, ◌||◌, nat_lt, Bool, true, false, not}
use Rattle.std.specs.Prelude.{if◌then◌else◌, List, [], ◌∷◌, ◌++◌}
use Rattle.vcd_core.specs.declared.bit.Bit.{Bit}
use Rattle.vcd_decode.specs.BusEvents.{is_line_high}
use Rattle.vcd_decode.specs.Lines.{letter_before, is_zero}
use Rattle.vcd_decode.specs.declared.i2c_bus.events.BusEvent.{BusEvent}
use Rattle.vcd_decode.specs.declared.i2c_bus.events.BusEvent.TheVariants as events

-- whether a condition after so many bits cuts a transfer off: it comes neither right after an
-- acknowledge nor after a START, with one rise of SCL between them
abbrev pub is_cut_off : (in_transfer : Bool) → (bits : ℕ) → Bool
is_cut_off in_transfer bits = in_transfer && not (bits % 9 == 1)

-- the ticks of the conditions that do; a transfer lasts from a START to the next STOP
unfoldable pub cutting_conditions : (in_transfer : Bool) → (bits : ℕ) → List BusEvent → List ℕ
cutting_conditions in_transfer bits [] = []
cutting_conditions in_transfer bits (events.Bit b ∷ es) =
    cutting_conditions in_transfer (bits + 1) es
cutting_conditions in_transfer bits (events.Start t ∷ es) =
    (if is_cut_off in_transfer bits then t ∷ [] else []) ++ cutting_conditions true 0 es
cutting_conditions in_transfer bits (events.Stop t ∷ es) =
    (if is_cut_off in_transfer bits then t ∷ [] else []) ++ cutting_conditions false 0 es

-- the ticks of the bits outside transfers, but one after each STOP, and one at first
unfoldable pub stray_bits : (in_transfer : Bool) → (bits : ℕ) → List BusEvent → List ℕ
stray_bits in_transfer bits [] = []
stray_bits in_transfer bits (events.Bit b ∷ es) =
    (if not in_transfer && nat_lt 0 bits then b.tick ∷ [] else [])
    ++ stray_bits in_transfer (bits + 1) es
stray_bits in_transfer bits (events.Start t ∷ es) = stray_bits true 0 es
stray_bits in_transfer bits (events.Stop t ∷ es) = stray_bits false 0 es

-- the last START, if no STOP follows it; `before`: that of the events before
unfoldable pub open_start : (before : List ℕ) → List BusEvent → List ℕ
open_start before [] = before
open_start before (events.Bit b ∷ es) = open_start before es
open_start before (events.Start t ∷ es) = open_start (t ∷ []) es
open_start before (events.Stop t ∷ es) = open_start [] es

-- whether a line goes from low to high at a tick
abbrev pub has_rise : (line : ℕ → Bit) → ℕ → Bool
has_rise line t = is_zero (letter_before line t) && is_line_high (line t)

-- whether it goes from high to low
abbrev pub has_fall : (line : ℕ → Bit) → ℕ → Bool
has_fall line t = is_line_high (letter_before line t) && is_zero (line t)

-- whether SCL rises at a tick at which SDA changes as well. Where SCL falls SDA may change
-- (UM10204, table 10: a hold time of 0)
abbrev pub has_joint_rise : (scl sda : ℕ → Bit) → ℕ → Bool
has_joint_rise scl sda t = has_rise scl t && (has_rise sda t || has_fall sda t)
