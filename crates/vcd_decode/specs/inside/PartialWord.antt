-- The bits of an SPI word so far, and one more.
use Rattle.std.specs.Prelude.{ℕ, ◌+◌, ◌*◌, ◌^◌, ◌==◌, ◌<◌, if◌then◌else◌, Option}
use Rattle.std.specs.Prelude.{Some, None, List, slice_index_or}
use Rattle.vcd_core.specs.declared.bit.Bit.{Bit}
use Rattle.vcd_core.specs.declared.bit.Bit.TheVariants.{Zero, One, X, Z}
use Rattle.vcd_core.specs.declared.bit_edges.BitEdge.{BitEdge}
use Rattle.vcd_decode.specs.declared.annotation.Annotation.{Annotation}
use Rattle.vcd_decode.specs.declared.annotation.Kind.TheVariants.{Word, Unfinished}
use Rattle.vcd_decode.specs.declared.annotation.LineData.{LineData}
use Rattle.vcd_decode.specs.declared.annotation.LineData.TheVariants.{Absent, Unknown, Number}
use Rattle.vcd_decode.specs.declared.spi_setup.BitOrder.{BitOrder}
use Rattle.vcd_decode.specs.declared.spi_setup.BitOrder.TheVariants.{Msb, Lsb}
use Rattle.vcd_decode.specs.declared.partial_word.PartialWord.{PartialWord}
use Rattle.vcd_decode.specs.Lines.{annotation}

-- the bit of a line at an edge
abbrev pub line_bit : List (Option Bit) → ℕ → Option Bit
line_bit bits k = slice_index_or bits k None

-- ---- the group that is not full yet

-- 0 or 1 as a number
abbrev pub digit_of : Bit → Option ℕ
digit_of Zero = Some 0
digit_of One = Some 1
digit_of X = None
digit_of Z = None

-- a number of some bits, with one more
abbrev pub longer_number : BitOrder → ℕ → ℕ → ℕ → ℕ
longer_number Msb count number digit = 2 * number + digit
longer_number Lsb count number digit = number + digit * 2 ^ count

-- the data of a line after one more bit, where the bits before gave this number
abbrev pub number_after : BitOrder → ℕ → ℕ → Option ℕ → LineData
number_after order count number None = Unknown
number_after order count number (Some digit) = Number (longer_number order count number digit)

-- the data of a line after one more bit; none if it is absent
abbrev pub data_after : BitOrder → ℕ → LineData → Option Bit → LineData
data_after order count shown None = Absent
data_after order count Absent (Some b) = Absent
data_after order count Unknown (Some b) = Unknown
data_after order count (Number n) (Some b) = number_after order count n (digit_of b)

-- a number fits its bits
abbrev pub DataFits : ℕ → LineData → Type 0
DataFits count Absent = Unit {0}
DataFits count Unknown = Unit {0}
DataFits count (Number n) = n < 2 ^ count

-- the group before its first bit
abbrev pub empty_group : PartialWord
empty_group = record { start = 0; last = 0; count = 0; mosi = Number 0; miso = Number 0 }

-- the group with the bits of an edge
abbrev pub group_after : BitOrder → PartialWord → BitEdge → PartialWord
group_after order g e = record {
  start = if g.count == 0 then e.tick else g.start;
  last = e.tick;
  count = g.count + 1;
  mosi = data_after order g.count g.mosi (line_bit e.at 1);
  miso = data_after order g.count g.miso (line_bit e.at 2);
}

-- the annotation of a whole word
abbrev pub word_annotation : PartialWord → Annotation
word_annotation g = annotation g.start g.last (Word g.mosi g.miso)

-- the annotation of a group that is not whole
abbrev pub unfinished_annotation : PartialWord → Annotation
unfinished_annotation g = annotation g.start g.last (Unfinished g.count)
