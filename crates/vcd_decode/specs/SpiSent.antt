-- The lines that a sender of words drives on a serial peripheral interface: what `Spi` is to give
-- back.
use Rattle.std.specs.Prelude.{ℕ, suc, ◌+◌, ◌-◌, ◌/◌, ◌%◌, ◌^◌, ◌<◌, ◌≤◌, ◌≡◌, ◌&&◌, nat_lt, nat_le}
use Rattle.std.specs.Prelude.{⊤, Option, Some, None, List, [], ◌∷◌, reverse, get_or}
use Rattle.vcd_core.specs.declared.bit.Bit.{Bit}
use Rattle.vcd_core.specs.declared.bit.Bit.TheVariants.{Zero, X}
use Rattle.vcd_core.specs.Value.{same_letter}
use Rattle.vcd_decode.specs.declared.annotation.Annotation.{Annotation}
use Rattle.vcd_decode.specs.declared.annotation.Kind.TheVariants.{Word, Unfinished}
use Rattle.vcd_decode.specs.declared.annotation.LineData.{LineData}
use Rattle.vcd_decode.specs.declared.annotation.LineData.TheVariants.{Absent, Number}
use Rattle.vcd_decode.specs.declared.spi_setup.BitOrder.{BitOrder}
use Rattle.vcd_decode.specs.declared.spi_setup.BitOrder.TheVariants.{Msb, Lsb}
use Rattle.vcd_decode.specs.SpiSetup.{SpiSetup}
use Rattle.vcd_decode.specs.Lines.{annotation}
use Rattle.vcd_decode.specs.SentLevels.{level, data_levels}

-- ---- words

-- a word each way, and the ticks at which each of its bits starts and has its middle
pub record SpiWord : Type 0 where
  pub bit_start : ℕ → ℕ
  pub bit_middle : ℕ → ℕ
  pub out : ℕ
  pub back : ℕ

-- the tick after a word: there a further bit would start
abbrev pub word_end : SpiSetup → SpiWord → ℕ
word_end u w = w.bit_start u.bits

-- each bit has a tick or more before its middle, and from its middle on
abbrev pub HasHalves : SpiWord → Type 0
HasHalves w = (k : ℕ) → (w.bit_start k < w.bit_middle k) × (w.bit_middle k < w.bit_start (suc k))

-- the words fit their bits, and one after the other into the ticks from `from` to before `until`
unfoldable pub WordsFit : SpiSetup → ℕ → ℕ → List SpiWord → Type 0
WordsFit u from until [] = from ≤ until
WordsFit u from until (w ∷ ws) =
    (w.out < 2 ^ u.bits) × (w.back < 2 ^ u.bits) × HasHalves w × (from ≤ w.bit_start 0)
    × WordsFit u (word_end u w) until ws

-- ---- lines

-- the clock where it idles: 0 in the modes 0 and 1, else 1
abbrev pub idle_level : ℕ → Bit
idle_level mode = level (mode / 2)

-- the clock in the first half of a bit: in the modes 1 and 3 it changes as the bit starts
abbrev pub first_level : ℕ → Bit
first_level mode = level (mode / 2 + mode % 2)

-- the clock in the second half: in each mode it changes in the middle of a bit
abbrev pub second_level : ℕ → Bit
second_level mode = level (suc (mode / 2 + mode % 2))

-- the clock at the ticks from `from` to before `until`: in words it has the levels of the halves of
-- each bit, and elsewhere it idles
unfoldable pub SendsClock : SpiSetup → (ℕ → Bit) → ℕ → ℕ → List SpiWord → Type 0
SendsClock u clk from until [] = (t : ℕ) → from ≤ t → t < until → clk t ≡ idle_level u.mode
SendsClock u clk from until (w ∷ ws) =
    ((t : ℕ) → from ≤ t → t < w.bit_start 0 → t < until → clk t ≡ idle_level u.mode)
    × ((k t : ℕ) → k < u.bits → w.bit_start k ≤ t → t < w.bit_middle k → t < until
    → clk t ≡ first_level u.mode)
    × ((k t : ℕ) → k < u.bits → w.bit_middle k ≤ t → t < w.bit_start (suc k) → t < until
    → clk t ≡ second_level u.mode)
    × SendsClock u clk (word_end u w) until ws

-- the bits of a word in their order
abbrev pub ordered_levels : BitOrder → ℕ → ℕ → List Bit
ordered_levels Lsb bits word = data_levels bits word
ordered_levels Msb bits word = reverse (data_levels bits word)

-- a data line has each bit of a word at the tick in its middle; at other ticks it has any letter
unfoldable pub SendsData : SpiSetup → (SpiWord → ℕ) → (ℕ → Bit) → List SpiWord → Type 0
SendsData u word_of f [] = ⊤
SendsData u word_of f (w ∷ ws) =
    ((k : ℕ) → k < u.bits
    → f (w.bit_middle k) ≡ get_or (ordered_levels u.order u.bits (word_of w)) k X)
    × SendsData u word_of f ws

-- the same for a line that may be absent
abbrev pub MaySendData : SpiSetup → (SpiWord → ℕ) → Option (ℕ → Bit) → List SpiWord → Type 0
MaySendData u word_of None ws = ⊤
MaySendData u word_of (Some f) ws = SendsData u word_of f ws

-- the chip is selected at the ticks from `select` to before `release`: there the line is 0, and at
-- no other up to the end. Without the line it is selected at all ticks
abbrev pub IsChipSelect : Option (ℕ → Bit) → ℕ → ℕ → ℕ → Type 0
IsChipSelect None select release end = (select ≡ 0) × (release ≡ suc end)
IsChipSelect (Some cs) select release end =
    (t : ℕ) → t ≤ end → same_letter (cs t) Zero ≡ (nat_le select t && nat_lt t release)

-- ---- what is to be found

-- what a line shows of a word
abbrev pub sent_line_data : Option (ℕ → Bit) → ℕ → LineData
sent_line_data None word = Absent
sent_line_data (Some f) word = Number word

-- the annotation of a word: from the middle of its first bit to that of its last
abbrev pub sent_word_annotation : SpiSetup → (mosi miso : Option (ℕ → Bit)) → SpiWord → Annotation
sent_word_annotation u mosi miso w =
    annotation (w.bit_middle 0) (w.bit_middle (u.bits - 1))
    (Word (sent_line_data mosi w.out) (sent_line_data miso w.back))

-- the annotation of the first bits of a word
abbrev pub sent_partial_annotation : SpiWord → ℕ → Annotation
sent_partial_annotation w count =
    annotation (w.bit_middle 0) (w.bit_middle (count - 1)) (Unfinished count)
