-- A wave of one bit as a line.
use Rattle.std.specs.Prelude.{ℕ}
use Rattle.vcd_core.specs.declared.bit.Bit.{Bit}
use Rattle.vcd_core.specs.WaveView.{WaveView}
use Rattle.vcd_core.specs.Value.{letter_at}
use Rattle.vcd_core.specs.Wave.{value_at}

-- the letter of a one-bit wave at each tick
abbrev pub line_of : WaveView → ℕ → Bit
line_of wave t = letter_at (value_at wave.width wave.changes t) 0
