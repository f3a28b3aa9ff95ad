-- The events on the two lines of an I2C bus at each tick: conditions and bits (UM10204, 3.1.3 and
-- 3.1.4). The project's own: z is high, and two changes at once are no condition.
use Rattle.std.specs.Prelude.{ℕ, suc, Bool, true, false, ◌&&◌, Option, Some, None, List, filter_map}
use Rattle.std.specs.Prelude.{if◌then◌else◌}
use Rattle.std.specs.List.{range_with_len}
use Rattle.vcd_core.specs.declared.bit.Bit.{Bit}
use Rattle.vcd_core.specs.declared.bit.Bit.TheVariants.{One, Z}
use Rattle.vcd_decode.specs.Lines.{letter_before, is_zero}
use Rattle.vcd_decode.specs.declared.i2c_bus.events.BusEvent.{BusEvent}
use Rattle.vcd_decode.specs.declared.i2c_bus.events.BusEvent.TheVariants as events

-- whether a level is high: 1, or z, where a resistor pulls the line up; low is 0, and x is neither
abbrev pub is_line_high : Bit → Bool
is_line_high One = true
is_line_high Z = true
is_line_high b = false

-- a START condition at a tick: SDA goes from high to low while SCL stays high
abbrev pub is_start_at : (scl sda : ℕ → Bit) → ℕ → Bool
is_start_at scl sda t = is_line_high (letter_before scl t) && is_line_high (scl t)
    && is_line_high (letter_before sda t) && is_zero (sda t)

-- a STOP condition at a tick: SDA goes from low to high while SCL stays high
abbrev pub is_stop_at : (scl sda : ℕ → Bit) → ℕ → Bool
is_stop_at scl sda t = is_line_high (letter_before scl t) && is_line_high (scl t)
    && is_zero (letter_before sda t) && is_line_high (sda t)

-- the event at a tick: a condition, or a bit where SCL goes from low to high, which has the level
-- of SDA
abbrev pub bus_event_at : (scl sda : ℕ → Bit) → ℕ → Option BusEvent
bus_event_at scl sda t = if is_start_at scl sda t then Some (events.Start t)
    else (if is_stop_at scl sda t then Some (events.Stop t)
    else (if is_zero (letter_before scl t) && is_line_high (scl t)
    then Some (events.Bit (record { tick = t; level = sda t })) else None))

-- the events at the ticks 0 to `end`
unfoldable pub bus_events : (scl sda : ℕ → Bit) → ℕ → List BusEvent
bus_events scl sda end = filter_map (bus_event_at scl sda) (range_with_len 0 (suc end))
