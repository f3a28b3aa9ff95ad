-- The walk over edges for SPI words: the annotations of each edge, and the group of bits after it.
use Rattle.std.specs.Prelude.{ℕ, ◌+◌, ◌==◌, ◌<◌, ◌&&◌, nat_lt, Bool, true, not, if◌then◌else◌}
use Rattle.std.specs.Prelude.{Option, Some, None, List, [], ◌∷◌, ◌++◌, length}
use Rattle.vcd_core.specs.declared.bit.Bit.{Bit}
use Rattle.vcd_core.specs.declared.bit_edges.BitEdge.{BitEdge}
use Rattle.vcd_decode.specs.declared.annotation.Annotation.{Annotation}
use Rattle.vcd_decode.specs.declared.annotation.LineData.{LineData}
use Rattle.vcd_decode.specs.declared.annotation.LineData.TheVariants.{Number}
use Rattle.vcd_decode.specs.declared.partial_word.PartialWord.{PartialWord}
use Rattle.vcd_decode.specs.declared.spi_setup.BitOrder.{BitOrder}
use Rattle.vcd_decode.specs.SpiSetup.{SpiSetup}
use Rattle.vcd_decode.specs.Lines.{is_zero}
use Rattle.vcd_decode.specs.Spi.{line_data}
use Rattle.vcd_decode.specs.inside.SpiParts.{group_start, group_end, segment_annotations}
use Rattle.vcd_decode.specs.inside.SpiSetup.{samples_at}
use Rattle.vcd_decode.specs.inside.PartialWord.{line_bit, DataFits, empty_group, group_after}
use Rattle.vcd_decode.specs.inside.PartialWord.{word_annotation, unfinished_annotation}

-- ---- the tests of an edge

-- whether the chip is selected by the bit of its line
abbrev pub selects_chip : Option Bit → Bool
selects_chip None = true
selects_chip (Some b) = is_zero b

-- whether the chip is deselected
abbrev pub deselects_chip : BitEdge → Bool
deselects_chip e = selects_chip (line_bit e.before 3) && not (selects_chip (line_bit e.at 3))

-- whether the data lines are sampled
abbrev pub is_sampling : SpiSetup → BitEdge → Bool
is_sampling u e =
    selects_chip (line_bit e.at 3) && samples_at u.mode (line_bit e.before 0) (line_bit e.at 0)

-- ---- the annotations of an edge, and the group after it

-- the group has room for one more bit
pub record HasRoomForBit (u : SpiSetup) (g : PartialWord) : Type 0 where
  pub count : g.count < u.bits
  pub mosi : DataFits g.count g.mosi
  pub miso : DataFits g.count g.miso

-- the annotations of an unfinished group
abbrev pub annotations_of_unfinished : PartialWord → List Annotation
annotations_of_unfinished g = if g.count == 0 then [] else unfinished_annotation g ∷ []

-- the annotations of an edge at which the chip's selection does not change
abbrev pub annotations_at_bit : SpiSetup → PartialWord → BitEdge → List Annotation
annotations_at_bit u g e =
    if not (is_sampling u e) then []
    else (if nat_lt (g.count + 1) u.bits then []
    else word_annotation (group_after u.order g e) ∷ [])

-- the group after such an edge
abbrev pub bit_group : SpiSetup → PartialWord → BitEdge → PartialWord
bit_group u g e =
    if not (is_sampling u e) then g
    else (if nat_lt (g.count + 1) u.bits then group_after u.order g e
    else empty_group)

-- the annotations of any edge
abbrev pub annotations_at_edge : SpiSetup → PartialWord → BitEdge → List Annotation
annotations_at_edge u g e = if deselects_chip e then annotations_of_unfinished g
    else annotations_at_bit u g e

-- the group after any edge
abbrev pub edge_group : SpiSetup → PartialWord → BitEdge → PartialWord
edge_group u g e = if deselects_chip e then empty_group else bit_group u g e

-- ---- a decoder

-- what a decoder holds
pub record SpiState : Type 0 where
  pub setup : SpiSetup
  pub group : PartialWord

-- a decoder after an edge
abbrev pub state_after : SpiState → BitEdge → SpiState
state_after d e = record { setup = d.setup; group = edge_group d.setup d.group e }

-- the annotations that a decoder has left to give for the edges to come, up to the last
unfoldable pub spi_annotations_left : SpiState → List BitEdge → List Annotation
spi_annotations_left d [] = annotations_of_unfinished d.group
spi_annotations_left d (e ∷ es) =
    annotations_at_edge d.setup d.group e ++ spi_annotations_left (state_after d e) es

-- ---- the same by ticks

-- the data of a line at the ticks of a group
abbrev pub group_data : BitOrder → Option (ℕ → Bit) → List ℕ → LineData
group_data order line [] = Number 0
group_data order line (t ∷ ts) = line_data order line (t ∷ ts)

-- the group of some ticks
abbrev pub tick_group : SpiSetup → Option (ℕ → Bit) → Option (ℕ → Bit) → List ℕ → PartialWord
tick_group u mosi miso ticks = record {
  start = group_start ticks;
  last = group_end ticks;
  count = length ticks;
  mosi = group_data u.order mosi ticks;
  miso = group_data u.order miso ticks;
}

-- the mark of an edge: a sampling tick, or none if the chip is deselected
unfoldable pub edge_marks : SpiSetup → BitEdge → List (Option ℕ)
edge_marks u e = if deselects_chip e then None ∷ []
    else (if is_sampling u e then Some e.tick ∷ [] else [])

-- the annotations of marks, after some ticks of the segment
unfoldable pub annotations_at_marks : SpiSetup → Option (ℕ → Bit) → Option (ℕ → Bit) → List ℕ
    → List (Option ℕ)
    → List Annotation
annotations_at_marks u mosi miso ticks [] = segment_annotations u mosi miso ticks
annotations_at_marks u mosi miso ticks (None ∷ marks) =
    segment_annotations u mosi miso ticks ++ annotations_at_marks u mosi miso [] marks
annotations_at_marks u mosi miso ticks (Some t ∷ marks) =
    annotations_at_marks u mosi miso (ticks ++ t ∷ []) marks
