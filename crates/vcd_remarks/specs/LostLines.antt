-- Where a line of a decoder is lost. The project's own.
use Rattle.std.specs.Prelude.{ℕ, ◌&&◌, Bool, true, false, not}
use Rattle.vcd_core.specs.declared.bit.Bit.{Bit}
use Rattle.vcd_core.specs.declared.bit.Bit.TheVariants.{X, Z}
use Rattle.vcd_decode.specs.Lines.{letter_before}
use Rattle.vcd_remarks.specs.declared.lost_lines.Pull.{Pull}
use Rattle.vcd_remarks.specs.declared.lost_lines.Pull.TheVariants.{Floating}

-- whether a letter is neither 0 nor 1: x, and z on a line that is not pulled up
abbrev pub is_lost : Pull → Bit → Bool
is_lost pull X = true
is_lost Floating Z = true
is_lost pull b = false

-- whether a line is lost from a tick on, and was 0 or 1 just before it: that excludes x at tick 0
abbrev pub becomes_lost : Pull → (line : ℕ → Bit) → ℕ → Bool
becomes_lost pull line t =
    not (is_lost pull (letter_before line t)) && is_lost pull (line t)
