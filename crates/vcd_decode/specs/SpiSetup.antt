-- The setup of a serial peripheral interface: the project's own.
use Rattle.std.specs.Prelude.{ℕ}
use Rattle.vcd_decode.specs.declared.spi_setup.BitOrder.{BitOrder}

-- a setup as contracts see it; a word has `bits` bits
pub record SpiSetup : Type 0 where
  pub mode : ℕ
  pub bits : ℕ
  pub order : BitOrder

-- a setup of these numbers
abbrev pub spi_setup : ℕ → ℕ → BitOrder → SpiSetup
spi_setup mode bits order = record { mode = mode; bits = bits; order = order }
