-- The words of a serial peripheral interface. The edge at which a mode samples is the field's
-- common rule (clock polarity and phase). How ticks are cut into words is the project's own.
use Rattle.std.specs.Prelude.{ℕ, suc, ◌-◌, ◌==◌, ◌&&◌, ◌||◌, nat_lt, Bool, true, not, Option, Some}
use Rattle.std.specs.Prelude.{None, List, map, filter, length, reverse, slice_index, if◌then◌else◌}
use Rattle.std.specs.List.{flat_map, list_any, range_with_len, slice_split}
use Rattle.vcd_core.specs.declared.bit.Bit.{Bit}
use Rattle.vcd_decode.specs.declared.annotation.Annotation.{Annotation}
use Rattle.vcd_decode.specs.declared.annotation.Kind.TheVariants.{Word, Unfinished}
use Rattle.vcd_decode.specs.declared.annotation.LineData.{LineData}
use Rattle.vcd_decode.specs.declared.annotation.LineData.TheVariants.{Absent, Unknown, Number}
use Rattle.vcd_decode.specs.declared.spi_setup.BitOrder.{BitOrder}
use Rattle.vcd_decode.specs.declared.spi_setup.BitOrder.TheVariants.{Msb, Lsb}
use Rattle.vcd_decode.specs.SpiSetup.{SpiSetup}
use Rattle.vcd_decode.specs.Groups.{groups_of}
use Rattle.vcd_decode.specs.Lines.{letter_before, is_zero, is_one, is_unclear, number_from_letters}
use Rattle.vcd_decode.specs.Lines.{annotation}

-- ---- the sampling ticks

-- whether the clock has the mode's edge at a tick: in the modes 0 and 3 it rises, in 1 and 2 it
-- falls
abbrev pub has_sampling_edge : (mode : ℕ) → (clk : ℕ → Bit) → ℕ → Bool
has_sampling_edge mode clk t =
    if mode == 0 || mode == 3 then is_zero (letter_before clk t) && is_one (clk t)
    else is_one (letter_before clk t) && is_zero (clk t)

-- whether the chip is selected at a tick: always if there is no such line
abbrev pub is_selected : Option (ℕ → Bit) → ℕ → Bool
is_selected None t = true
is_selected (Some cs) t = is_zero (cs t)

-- the sampled ticks 0 to `end`, in parts between the ticks at which the chip is not selected
abbrev pub segments : SpiSetup → (ℕ → Bit) → Option (ℕ → Bit) → ℕ → List (List ℕ)
segments u clk cs end = map (filter (has_sampling_edge u.mode clk))
    (slice_split (λ t. not (is_selected cs t)) (range_with_len 0 (suc end)))

-- ---- words

-- the number that letters give in the order in which they come
abbrev pub ordered_number : BitOrder → List Bit → ℕ
ordered_number Msb letters = number_from_letters (reverse letters)
ordered_number Lsb letters = number_from_letters letters

-- the data of these letters: unknown if one is neither 0 nor 1
abbrev pub data_of_letters : BitOrder → List Bit → LineData
data_of_letters order letters =
    if list_any is_unclear letters then Unknown else Number (ordered_number order letters)

-- the data of a line at some ticks
abbrev pub line_data : BitOrder → Option (ℕ → Bit) → List ℕ → LineData
line_data order None ticks = Absent
line_data order (Some f) ticks = data_of_letters order (map f ticks)

-- the annotation of a group of ticks: a word, or the number of bits of an unfinished one
abbrev pub group_annotation : SpiSetup → (mosi miso : Option (ℕ → Bit)) → List ℕ → Annotation
group_annotation u mosi miso ticks =
    annotation (slice_index ticks 0) (slice_index ticks (length ticks - 1))
    (if nat_lt (length ticks) u.bits then Unfinished (length ticks)
    else Word (line_data u.order mosi ticks) (line_data u.order miso ticks))

-- the annotations of lines with these letters at each tick, up to the capture's end
unfoldable pub spi_annotations : SpiSetup → (clk : ℕ → Bit) → (mosi miso cs : Option (ℕ → Bit)) → ℕ
    → List Annotation
spi_annotations u clk mosi miso cs end =
    flat_map (λ ticks. map (group_annotation u mosi miso) (groups_of u.bits ticks))
    (segments u clk cs end)
