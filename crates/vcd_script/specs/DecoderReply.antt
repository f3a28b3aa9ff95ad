-- The reply to a line that decodes signals. Its form is the project's own.
use Rattle.std.specs.Prelude.{ℕ, zero, suc, ◌+◌, ◌/◌, ◌%◌, false, List, [], ◌∷◌, ◌++◌, Option, map}
use Rattle.std.specs.Prelude.{codes}
use Rattle.std.specs.Fmt.{decimal, digit_glyph}
use Rattle.std.specs.Option.{option_map}
use Rattle.vcd_core.specs.Contents.{Contents}
use Rattle.vcd_edit.specs.Effect.{signal_bit}
use Rattle.vcd_decode.specs.declared.annotation.Annotation.{Annotation}
use Rattle.vcd_decode.specs.declared.annotation.Direction.{Direction}
use Rattle.vcd_decode.specs.declared.annotation.Direction.TheVariants.{Write, Read}
use Rattle.vcd_decode.specs.declared.annotation.Kind.{Kind}
use Rattle.vcd_decode.specs.declared.annotation.Kind.TheVariants as kinds
use Rattle.vcd_decode.specs.declared.annotation.LineData.{LineData}
use Rattle.vcd_decode.specs.declared.annotation.LineData.TheVariants.{Absent, Unknown, Number}
use Rattle.vcd_decode.specs.UartSetup.{UartSetup}
use Rattle.vcd_decode.specs.Uart.{uart_annotations}
use Rattle.vcd_decode.specs.SpiSetup.{SpiSetup}
use Rattle.vcd_decode.specs.Spi.{spi_annotations}
use Rattle.vcd_decode.specs.I2c.{i2c_annotations}

-- ---- numbers

-- the last hexadecimal digits of a number, as many as `count`, in lower case
abbrev pub hex_digits : ℕ → ℕ → List ℕ
hex_digits zero n = []
hex_digits (suc count) n = hex_digits count (n / 16) ++ digit_glyph false (n % 16) ∷ []

-- a number in `count` hexadecimal digits
abbrev pub hex_text : ℕ → ℕ → List ℕ
hex_text count n = codes "0x" ++ hex_digits count n

-- how many hexadecimal digits this many bits have
abbrev pub nibbles : ℕ → ℕ
nibbles bits = (bits + 3) / 4

-- ---- kinds

-- whether the controller of a bus writes or reads
abbrev pub direction_text : Direction → List ℕ
direction_text Write = codes " write"
direction_text Read = codes " read"

-- of UART and SPI, whose data have `digits` hexadecimal digits, and of I2C, which does not use it
module _ (digits : ℕ) where
  -- the name of an SPI data line and what the line shows of a word; nothing if it is absent
  abbrev pub data_text : List ℕ → LineData → List ℕ
  data_text name Absent = []
  data_text name Unknown = name ++ codes "?"
  data_text name (Number n) = name ++ hex_text digits n

  -- the kind of an annotation
  abbrev pub kind_text : Kind → List ℕ
  kind_text (kinds.Byte n) = codes "byte " ++ hex_text digits n
  kind_text (kinds.ParityError n) = codes "parity-error " ++ hex_text digits n
  kind_text kinds.FrameError = codes "frame-error"
  kind_text kinds.Unknown = codes "unknown"
  kind_text kinds.CutOff = codes "partial"
  kind_text (kinds.Word mosi miso) = codes "word" ++ data_text (codes " mosi ") mosi
      ++ data_text (codes " miso ") miso
  kind_text (kinds.Unfinished count) = codes "partial " ++ decimal count
  kind_text kinds.Start = codes "start"
  kind_text kinds.RepeatedStart = codes "repeated-start"
  kind_text kinds.Stop = codes "stop"
  kind_text (kinds.Address address direction) = codes "address " ++ hex_text 2 address
      ++ direction_text direction
  kind_text (kinds.AddressHigh bits direction) = codes "address-high " ++ hex_text 1 bits
      ++ direction_text direction
  kind_text (kinds.TenBitAddress address direction) = codes "address " ++ hex_text 3 address
      ++ direction_text direction
  kind_text (kinds.Data byte) = codes "data " ++ hex_text 2 byte
  kind_text kinds.Ack = codes "ack"
  kind_text kinds.Nack = codes "nack"

-- ---- lines

-- the line of an annotation: its first and last tick, the decoder's name, its kind
abbrev pub annotation_line : List ℕ → ℕ → Annotation → List ℕ
annotation_line decoder digits a = decimal a.start ++ codes "-" ++ decimal a.end ++ codes " "
    ++ decoder ++ codes " " ++ kind_text digits a.kind

-- the reply on a capture
module _ (c : Contents) where
  -- the lines of the frames on a UART line
  abbrev pub uart_lines : ℕ → UartSetup → List (List ℕ)
  uart_lines k u = map (annotation_line (codes "uart") (nibbles u.data_bits))
      (uart_annotations (signal_bit c k 0) c.end u)

  -- the lines of the words on a serial peripheral interface
  abbrev pub spi_lines : (clk : ℕ) → (mosi miso cs : Option ℕ) → SpiSetup → List (List ℕ)
  spi_lines clk mosi miso cs u = map (annotation_line (codes "spi") (nibbles u.bits))
      (spi_annotations u (signal_bit c clk 0) (option_map (λ k. signal_bit c k 0) mosi)
      (option_map (λ k. signal_bit c k 0) miso) (option_map (λ k. signal_bit c k 0) cs) c.end)

  -- the lines of the events on an I2C bus
  abbrev pub i2c_lines : (scl sda : ℕ) → List (List ℕ)
  i2c_lines scl sda = map (annotation_line (codes "i2c") 2)
      (i2c_annotations (signal_bit c scl 0) (signal_bit c sda 0) c.end)
