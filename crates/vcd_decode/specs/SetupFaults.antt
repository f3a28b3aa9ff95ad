-- The faults of setups: the project's own.
use Rattle.std.specs.Prelude.{ℕ, ◌*◌, ◌&&◌, Bool, nat_le, [], ◌∷◌, Option}
use Rattle.vcd_core.specs.Tests.{◌unless◌, first_fault}
use Rattle.vcd_decode.specs.declared.uart_setup.TheConstants.{RATIO_LIMIT}
use Rattle.vcd_decode.specs.declared.spi_setup.TheConstants.{GREATEST_MODE, WORD_BITS_LIMIT}
use Rattle.vcd_decode.specs.declared.setup_error.SetupError.{SetupError}
use Rattle.vcd_decode.specs.declared.setup_error.SetupError.TheVariants.{BadRatio, BitTooShort}
use Rattle.vcd_decode.specs.declared.setup_error.SetupError.TheVariants.{BadData, BadStop, BadMode}
use Rattle.vcd_decode.specs.declared.setup_error.SetupError.TheVariants.{BadBits}
use Rattle.vcd_decode.specs.UartSetup.{UartSetup}
use Rattle.vcd_decode.specs.SpiSetup.{SpiSetup}

-- whether a number is in this range, both ends included
abbrev pub is_between : ℕ → ℕ → ℕ → Bool
is_between least greatest n = nat_le least n && nat_le n greatest

-- the fault of the setup of a UART line, or none
abbrev pub uart_fault : UartSetup → Option SetupError
uart_fault u = first_fault (
    (BadRatio unless
    (is_between 1 RATIO_LIMIT u.numerator && is_between 1 RATIO_LIMIT u.denominator))
    ∷ (BitTooShort unless nat_le (2 * u.denominator) u.numerator)
    ∷ (BadData unless is_between 5 9 u.data_bits)
    ∷ (BadStop unless is_between 1 2 u.stop_bits)
    ∷ [])

-- the fault of the setup of a serial peripheral interface, or none
abbrev pub spi_fault : SpiSetup → Option SetupError
spi_fault u = first_fault (
    (BadMode unless nat_le u.mode GREATEST_MODE)
    ∷ (BadBits unless is_between 1 WORD_BITS_LIMIT u.bits)
    ∷ [])
