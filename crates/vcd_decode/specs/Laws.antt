-- The laws of the decoders: what is sent is found, what is apart is found apart, and an edge
-- through x or z counts for nothing. Each is the contract of a function of `laws`.
use Rattle.std.specs.Prelude.{ℕ, suc, ◌-◌, ◌≡◌, ◌<◌, ◌≤◌, ◌&&◌, nat_le, Bool, true, false}
use Rattle.std.specs.Prelude.{if◌then◌else◌, Option, Some, None, List, [], ◌∷◌, ◌++◌, map, length}
use Rattle.std.specs.List.{All, flat_map}
use Rattle.vcd_core.specs.declared.bit.Bit.{Bit}
use Rattle.vcd_core.specs.declared.bit.Bit.TheVariants.{Zero, One, Z}
use Rattle.vcd_core.specs.Value.{same_letter}
use Rattle.vcd_decode.specs.declared.annotation.Annotation.{Annotation}
use Rattle.vcd_decode.specs.declared.annotation.Kind.{Kind}
use Rattle.vcd_decode.specs.declared.annotation.Kind.TheVariants.{Word}
use Rattle.vcd_decode.specs.declared.annotation.LineData.TheVariants.{Absent}
use Rattle.vcd_decode.specs.UartSetup.{UartSetup}
use Rattle.vcd_decode.specs.SetupFaults.{spi_fault}
use Rattle.vcd_decode.specs.SetupResults.{IsUartSetup}
use Rattle.vcd_decode.specs.Uart.{uart_annotations}
use Rattle.vcd_decode.specs.SpiSetup.{SpiSetup}
use Rattle.vcd_decode.specs.Spi.{segments, spi_annotations}
use Rattle.vcd_decode.specs.SpiSent.{SpiWord, HasHalves, WordsFit, SendsClock, MaySendData}
use Rattle.vcd_decode.specs.SpiSent.{IsChipSelect, sent_word_annotation, sent_partial_annotation}
use Rattle.vcd_decode.specs.Lines.{letter_before}
use Rattle.vcd_decode.specs.I2c.{i2c_annotations}
use Rattle.vcd_decode.specs.I2cSent.{Transfer, AreTransfers, message_levels, HaveLevels}
use Rattle.vcd_decode.specs.I2cSent.{message_annotations}
use Rattle.vcd_decode.specs.UartSent.{SentFrame, SendsFrames, sent_annotation}

-- ---- what is sent is found

-- a line that sends frames, decoded, gives these frames; the capture ends after the middle of the
-- last bit
abbrev pub UartFramesAreFound : Type 0
UartFramesAreFound =
    (u : UartSetup) (line : ℕ → Bit) (end : ℕ) (ws : List SentFrame)
    → IsUartSetup u.numerator u.denominator u.data_bits u.stop_bits
    → SendsFrames u line 0 end ws
    → uart_annotations line end u ≡ map (sent_annotation u) ws

-- the lines of a serial peripheral interface that send words while the chip is selected, decoded,
-- give these words, for every setup; the clock idles at the tick before that, and at others before
-- and after it may do anything
abbrev pub SpiWordsAreFound : Type 0
SpiWordsAreFound =
    (u : SpiSetup) (select release end : ℕ) (ws : List SpiWord) (clk : ℕ → Bit)
    (mosi miso cs : Option (ℕ → Bit))
    → spi_fault u ≡ None → WordsFit u select release ws → release ≤ suc end
    → IsChipSelect cs select release end → SendsClock u clk (select - 1) release ws
    → MaySendData u (λ w. w.out) mosi ws → MaySendData u (λ w. w.back) miso ws
    → spi_annotations u clk mosi miso cs end ≡ map (sent_word_annotation u mosi miso) ws

-- if the chip is released within a word, once `count` of its bits have been sampled, that word is
-- partial
abbrev pub SpiPartialWordIsFound : Type 0
SpiPartialWordIsFound =
    (u : SpiSetup) (select release end : ℕ) (ws : List SpiWord) (w : SpiWord) (count : ℕ)
    (clk : ℕ → Bit) (mosi miso cs : Option (ℕ → Bit))
    → spi_fault u ≡ None → WordsFit u select (w.bit_start 0) ws → HasHalves w → release ≤ suc end
    → 0 < count → count < u.bits
    → w.bit_middle (count - 1) < release → release ≤ w.bit_middle count
    → IsChipSelect cs select release end → SendsClock u clk (select - 1) release (ws ++ w ∷ [])
    → MaySendData u (λ w. w.out) mosi ws → MaySendData u (λ w. w.back) miso ws
    → spi_annotations u clk mosi miso cs end
    ≡ map (sent_word_annotation u mosi miso) ws ++ sent_partial_annotation w count ∷ []

-- an I2C message, decoded, gives its conditions, addresses, directions, data and acknowledges, at
-- any tick distances: the level at index i begins at the tick `at i`, and the last one lasts to the
-- end
abbrev pub I2cMessagesAreFound : Type 0
I2cMessagesAreFound =
    (scl sda : ℕ → Bit) (end : ℕ) (at : ℕ → ℕ) (t : Transfer) (ts : List Transfer)
    → at 0 ≡ 0 → ((i : ℕ) → at i < at (suc i)) → at (length (message_levels t ts)) ≡ suc end
    → AreTransfers None (t ∷ ts) → HaveLevels scl sda at (message_levels t ts)
    → i2c_annotations scl sda end ≡ message_annotations at t ts

-- ---- what is apart on a line is found apart

-- a line up to a tick, and 1 after it
abbrev pub line_until : ℕ → (ℕ → Bit) → ℕ → Bit
line_until last line t = if nat_le t last then line t else One

-- a line after a tick, and 1 up to it
abbrev pub line_after : ℕ → (ℕ → Bit) → ℕ → Bit
line_after last line t = if nat_le t last then One else line t

-- at a tick at which its chip is not selected, what a serial peripheral interface shows falls in
-- two parts
abbrev pub SpiSelectionsAreApart : Type 0
SpiSelectionsAreApart =
    (u : SpiSetup) (clk cs : ℕ → Bit) (mosi miso : Option (ℕ → Bit)) (end released : ℕ)
    → released ≤ end → same_letter (cs released) Zero ≡ false
    → spi_annotations u clk mosi miso (Some cs) end
    ≡ spi_annotations u clk mosi miso (Some (line_until released cs)) end
    ++ spi_annotations u clk mosi miso (Some (line_after released cs)) end

-- a kind with nothing said of MOSI
abbrev pub without_mosi : Kind → Kind
without_mosi (Word mosi miso) = Word Absent miso
without_mosi kind = kind

-- a kind with nothing said of MISO
abbrev pub without_miso : Kind → Kind
without_miso (Word mosi miso) = Word mosi Absent
without_miso kind = kind

-- an annotation with another kind
abbrev pub with_kind : (Kind → Kind) → Annotation → Annotation
with_kind other a = record a { kind = other a.kind }

-- of two data lines each shows the same as if the other were absent
abbrev pub SpiLinesAreApart : Type 0
SpiLinesAreApart =
    (u : SpiSetup) (clk : ℕ → Bit) (mosi miso cs : Option (ℕ → Bit)) (end : ℕ)
    → (map (with_kind without_mosi) (spi_annotations u clk mosi miso cs end)
    ≡ spi_annotations u clk None miso cs end)
    × (map (with_kind without_miso) (spi_annotations u clk mosi miso cs end)
    ≡ spi_annotations u clk mosi None cs end)

-- ---- an edge through x or z counts for nothing

-- whether a line goes straight from one letter to another at a tick: it has the one just before the
-- tick, and the other at it
abbrev pub goes_straight : (from to : Bit) → (ℕ → Bit) → ℕ → Bool
goes_straight from to line t = same_letter (letter_before line t) from && same_letter (line t) to

-- each frame that is found begins where the line goes straight from 1 to 0
abbrev pub FramesBeginStraight : Type 0
FramesBeginStraight =
    (u : UartSetup) (line : ℕ → Bit) (end : ℕ)
    → All (λ frame. goes_straight One Zero line frame.start ≡ true) (uart_annotations line end u)

-- of the clock of a serial peripheral interface straight edges alone count: two clocks that have
-- the same give the same words
abbrev pub StraightClocksCount : Type 0
StraightClocksCount =
    (u : SpiSetup) (clk other : ℕ → Bit) (mosi miso cs : Option (ℕ → Bit)) (end : ℕ)
    → ((t : ℕ) → goes_straight Zero One clk t ≡ goes_straight Zero One other t)
    → ((t : ℕ) → goes_straight One Zero clk t ≡ goes_straight One Zero other t)
    → spi_annotations u clk mosi miso cs end ≡ spi_annotations u other mosi miso cs end

-- a line of a bus where z is pulled up to 1
abbrev pub pulled_up : (ℕ → Bit) → ℕ → Bit
pulled_up line t = if same_letter (line t) Z then One else line t

-- whether SCL stays 1 at a tick, and SDA goes straight from one letter to another
abbrev pub goes_while_high : (from to : Bit) → (scl sda : ℕ → Bit) → ℕ → Bool
goes_while_high from to scl sda t =
    goes_straight One One (pulled_up scl) t && goes_straight from to (pulled_up sda) t

-- of an I2C bus straight edges alone count: two buses give the same if these are the same. They are
-- the rises of SCL, each with the letter of SDA, and the falls and rises of SDA while SCL stays 1
abbrev pub StraightBusEdgesCount : Type 0
StraightBusEdgesCount =
    (scl sda other_scl other_sda : ℕ → Bit) (end : ℕ)
    → ((t : ℕ) → goes_straight Zero One (pulled_up scl) t
    ≡ goes_straight Zero One (pulled_up other_scl) t)
    → ((t : ℕ) → goes_straight Zero One (pulled_up scl) t ≡ true → sda t ≡ other_sda t)
    → ((t : ℕ) → goes_while_high One Zero scl sda t
    ≡ goes_while_high One Zero other_scl other_sda t)
    → ((t : ℕ) → goes_while_high Zero One scl sda t
    ≡ goes_while_high Zero One other_scl other_sda t)
    → i2c_annotations scl sda end ≡ i2c_annotations other_scl other_sda end

-- ---- messages on an I2C bus

-- at a STOP, what an I2C bus shows falls in two parts: after it the bus is as at first
abbrev pub I2cMessagesAreApart : Type 0
I2cMessagesAreApart =
    (scl sda : ℕ → Bit) (end stop : ℕ)
    → stop ≤ end → goes_while_high Zero One scl sda stop ≡ true
    → i2c_annotations scl sda end
    ≡ i2c_annotations (line_until stop scl) (line_until stop sda) end
    ++ i2c_annotations (line_after stop scl) (line_after stop sda) end
