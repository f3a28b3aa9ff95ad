-- The edges at which SCL rises and SDA changes: they are the first two of four lines.
use Rattle.std.specs.Prelude.{◌&&◌, ◌||◌, Bool, Option}
use Rattle.vcd_core.specs.declared.bit.Bit.{Bit}
use Rattle.vcd_core.specs.declared.bit_edges.BitEdge.{BitEdge}
use Rattle.vcd_decode.specs.BusEvents.{is_line_high}
use Rattle.vcd_decode.specs.Lines.{is_zero}
use Rattle.vcd_decode.specs.inside.PartialWord.{line_bit}
use Rattle.vcd_decode.specs.inside.SpiSetup.{is_present_and}

-- whether bits are present and go from low to high, or from high to low
abbrev pub rise : (before at : Option Bit) → Bool
rise before at = is_present_and is_zero before && is_present_and is_line_high at

abbrev pub fall : (before at : Option Bit) → Bool
fall before at = is_present_and is_line_high before && is_present_and is_zero at

-- whether the first rises at an edge, and the second changes
abbrev pub is_joint_rise : BitEdge → Bool
is_joint_rise e = rise (line_bit e.before 0) (line_bit e.at 0)
    && (rise (line_bit e.before 1) (line_bit e.at 1)
    || fall (line_bit e.before 1) (line_bit e.at 1))
