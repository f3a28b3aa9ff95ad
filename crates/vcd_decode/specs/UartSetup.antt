-- The setup of an asynchronous serial line: the project's own.
use Rattle.std.specs.Prelude.{ℕ}
use Rattle.vcd_decode.specs.declared.uart_setup.Parity.{Parity}

-- a setup as contracts see it: a bit lasts `numerator / denominator` ticks
pub record UartSetup : Type 0 where
  pub numerator : ℕ
  pub denominator : ℕ
  pub data_bits : ℕ
  pub parity : Parity
  pub stop_bits : ℕ

-- a setup of these numbers
abbrev pub uart_setup : ℕ → ℕ → ℕ → Parity → ℕ → UartSetup
uart_setup n d bits parity stop =
    record { numerator = n; denominator = d; data_bits = bits; parity = parity; stop_bits = stop }
