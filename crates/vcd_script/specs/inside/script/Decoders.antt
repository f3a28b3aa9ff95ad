-- The parts in which the words of `spi` are read.
use Rattle.std.specs.Prelude.{ℕ, List, Result, Ok}
use Rattle.vcd_core.specs.Contents.{Contents}
use Rattle.vcd_decode.specs.declared.spi_setup.BitOrder.{BitOrder}
use Rattle.vcd_decode.specs.SpiSetup.{spi_setup}
use Rattle.vcd_script.specs.declared.script.command.Command.{Command}
use Rattle.vcd_script.specs.declared.script.command.Command.TheVariants as commands
use Rattle.vcd_script.specs.declared.script.decoders.SpiLines.{SpiLines}
use Rattle.vcd_script.specs.declared.script.line_error.LineError.{LineError}
use Rattle.vcd_script.specs.ScriptWords.{◌>>=◌, number_of_word}
use Rattle.vcd_script.specs.DecoderWords.{order_of_word, one_bit_signal}
use Rattle.vcd_script.specs.DecoderWords.{one_bit_signal_or_absent, faultless}
use Rattle.vcd_decode.specs.SetupFaults.{spi_fault}

-- the command of `spi` for these signals and numbers, which are tested
abbrev pub checked_spi_command : Contents → SpiLines → ℕ → ℕ → BitOrder → Result Command LineError
checked_spi_command c lines mode bits order = do
  clock ← one_bit_signal c lines.clk
  out_line ← one_bit_signal_or_absent c lines.mosi
  in_line ← one_bit_signal_or_absent c lines.miso
  select_line ← one_bit_signal_or_absent c lines.cs
  setup ← faultless spi_fault (spi_setup mode bits order)
  Ok (commands.Spi clock out_line in_line select_line setup)

-- `MODE BITS ORDER` after these signals
abbrev pub spi_with_command : Contents → SpiLines → (mode bits order : List ℕ)
    → Result Command LineError
spi_with_command c lines mode bits order = do
  number ← number_of_word mode
  word_bits ← number_of_word bits
  bit_order ← order_of_word order
  checked_spi_command c lines number word_bits bit_order
