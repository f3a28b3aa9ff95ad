-- Whether it is amid a bit of a frame, away from both of its ends. The project's own.
use Rattle.std.specs.Prelude.{ℕ, ◌*◌, ◌%◌, ◌&&◌, nat_lt, Bool}
use Rattle.vcd_decode.specs.UartSetup.{UartSetup}

-- whether so many ticks after the start of a frame it is more than a quarter of a bit to both ends
-- of the bit there. `past` is in parts of a tick, of which a bit has `numerator`
abbrev pub is_amid_bit : UartSetup → (ticks : ℕ) → Bool
is_amid_bit u ticks =
    let past = ticks * u.denominator % u.numerator in
    nat_lt u.numerator (4 * past) && nat_lt (4 * past) (3 * u.numerator)
