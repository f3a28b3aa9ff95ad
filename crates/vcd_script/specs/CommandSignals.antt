-- The signals that a command refers to.
use Rattle.std.specs.Prelude.{◌≡◌, ◌<◌, ℕ, length, IfSome}
use Rattle.vcd_core.specs.Contents.{Contents, signal_at}
use Rattle.vcd_script.specs.declared.script.command.Command.{Command}
use Rattle.vcd_script.specs.declared.script.command.Command.TheVariants as commands

-- the signal at this position has one bit
abbrev pub IsScalarAt : Contents → ℕ → Type 0
IsScalarAt c k = (k < length c.signals) × ((signal_at c k).width ≡ 1)

-- the signals of a command exist, and those that it decodes have one bit
abbrev pub HasCommandSignals : Contents → Command → Type 0
HasCommandSignals c (commands.Value k tick) = k < length c.signals
HasCommandSignals c (commands.Changes k) = k < length c.signals
HasCommandSignals c (commands.Uart k setup) = IsScalarAt c k
HasCommandSignals c (commands.Spi clk mosi miso cs setup) = IsScalarAt c clk
    × IfSome mosi (IsScalarAt c)
    × IfSome miso (IsScalarAt c) × IfSome cs (IsScalarAt c)
HasCommandSignals c (commands.I2c scl sda) = IsScalarAt c scl × IsScalarAt c sda
HasCommandSignals c command = Unit {0}
