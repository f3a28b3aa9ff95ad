-- The parts of the words of a serial peripheral interface, as the code names them.
use Rattle.std.specs.Prelude.{ℕ, ◌-◌, ◌==◌, ◌||◌, Bool, Option, List, map, length, slice_index}
use Rattle.vcd_core.specs.declared.bit.Bit.{Bit}
use Rattle.vcd_decode.specs.declared.annotation.Annotation.{Annotation}
use Rattle.vcd_decode.specs.SpiSetup.{SpiSetup}
use Rattle.vcd_decode.specs.Groups.{groups_of}
use Rattle.vcd_decode.specs.Spi.{group_annotation}

-- whether a mode samples where its clock rises
abbrev pub samples_rising_edge : ℕ → Bool
samples_rising_edge mode = mode == 0 || mode == 3

-- the first of some ticks
abbrev pub group_start : List ℕ → ℕ
group_start ticks = slice_index ticks 0

-- the last of some ticks
abbrev pub group_end : List ℕ → ℕ
group_end ticks = slice_index ticks (length ticks - 1)

-- the annotations of a segment
abbrev pub segment_annotations : SpiSetup → (mosi miso : Option (ℕ → Bit)) → List ℕ
    → List Annotation
segment_annotations u mosi miso ticks = map (group_annotation u mosi miso) (groups_of u.bits ticks)
