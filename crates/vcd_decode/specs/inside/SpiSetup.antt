-- The sampling of an SPI clock, by its bits at an edge.
use Rattle.std.specs.Prelude.{ℕ, ◌&&◌, Bool, false, if◌then◌else◌, Option, Some, None}
use Rattle.vcd_core.specs.declared.bit.Bit.{Bit}
use Rattle.vcd_decode.specs.Lines.{is_zero, is_one}
use Rattle.vcd_decode.specs.inside.SpiParts.{samples_rising_edge}

-- whether a bit is present and passes a test
abbrev pub is_present_and : (Bit → Bool) → Option Bit → Bool
is_present_and test None = false
is_present_and test (Some b) = test b

-- whether a clock is sampled where it changes from one bit to another
abbrev pub samples_at : ℕ → Option Bit → Option Bit → Bool
samples_at mode before at =
    if samples_rising_edge mode then is_present_and is_zero before && is_present_and is_one at
    else is_present_and is_one before && is_present_and is_zero at

-- whether a clock is present and at the level to which the mode's sampling edge goes
abbrev pub shows_sampled_level : (mode : ℕ) → Option Bit → Bool
shows_sampled_level mode clk =
    if samples_rising_edge mode then is_present_and is_one clk else is_present_and is_zero clk

-- whether it is present and at the other level
abbrev pub shows_waiting_level : (mode : ℕ) → Option Bit → Bool
shows_waiting_level mode clk =
    if samples_rising_edge mode then is_present_and is_zero clk else is_present_and is_one clk
