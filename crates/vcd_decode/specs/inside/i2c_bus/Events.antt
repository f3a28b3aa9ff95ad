-- The event on the two lines of an I2C bus, by their levels before a tick and at it.
use Rattle.std.specs.Prelude.{ℕ, Bool, ◌&&◌, if◌then◌else◌, Option, Some, None}
use Rattle.vcd_decode.specs.Lines.{is_zero}
use Rattle.vcd_decode.specs.BusEvents.{is_line_high}
use Rattle.vcd_decode.specs.declared.i2c_bus.events.BusLevels.{BusLevels}
use Rattle.vcd_decode.specs.declared.i2c_bus.events.BusEvent.{BusEvent}
use Rattle.vcd_decode.specs.declared.i2c_bus.events.BusEvent.TheVariants as events

-- a START condition: SDA goes from high to low while SCL stays high
abbrev pub is_start : BusLevels → BusLevels → Bool
is_start before at =
    is_line_high before.scl && is_line_high at.scl && is_line_high before.sda && is_zero at.sda

-- a STOP condition: SDA goes from low to high while SCL stays high
abbrev pub is_stop : BusLevels → BusLevels → Bool
is_stop before at =
    is_line_high before.scl && is_line_high at.scl && is_zero before.sda && is_line_high at.sda

-- a bit: SCL goes from low to high
abbrev pub is_bit : BusLevels → BusLevels → Bool
is_bit before at = is_zero before.scl && is_line_high at.scl

-- the event at a tick, by the levels of the lines just before it and at it; a bit has the level of
-- SDA
abbrev pub bus_event : ℕ → BusLevels → BusLevels → Option BusEvent
bus_event t before at =
    if is_start before at then Some (events.Start t)
    else (if is_stop before at then Some (events.Stop t)
    else (if is_bit before at then Some (events.Bit (record { tick = t; level = at.sda }))
    else None))
